use Rattle.std.proofs.Common.{◌≡◌, []}
use Rattle.cell_chain.proofs.tests.chain_of.Given as goal

-- none is due
abbrev pub invariant-loop-row : goal.invariant-loop-row
invariant-loop-row l = l.chain.due ≡ []
