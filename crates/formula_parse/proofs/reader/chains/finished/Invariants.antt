use Rattle.std.proofs.Common.{◌≡◌, length}
use Rattle.formula_parse.specs.ReaderMachine.{tree_of_chains}
use Rattle.formula_parse.proofs.reader.chains.finished.Given as goal

abbrev pub invariant-loop-chain : goal.invariant-loop-chain
invariant-loop-chain l = tree_of_chains l.operand l.chains ≡ tree_of_chains l.fn.operand l.fn.chains

abbrev pub decreases-loop-chain : goal.decreases-loop-chain
decreases-loop-chain l = length l.chains
