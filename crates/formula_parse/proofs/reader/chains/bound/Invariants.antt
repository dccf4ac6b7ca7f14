use Rattle.std.proofs.Common.{◌≡◌, length}
use Rattle.formula_parse.specs.ReaderMachine.{operand_in_chains}
use Rattle.formula_parse.proofs.reader.chains.bound.Given as goal

abbrev pub invariant-loop-alloc : goal.invariant-loop-alloc
invariant-loop-alloc l = operand_in_chains l.place l.operand l.chains ≡ operand_in_chains l.fn.place l.fn.operand l.fn.chains

abbrev pub decreases-loop-alloc : goal.decreases-loop-alloc
decreases-loop-alloc l = length l.chains
