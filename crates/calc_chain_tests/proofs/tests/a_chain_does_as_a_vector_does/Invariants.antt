use Rattle.std.proofs.Common.{◌≡◌, []}
use Rattle.calc_chain_tests.proofs.tests.a_chain_does_as_a_vector_does.Given as goal

-- none is due
abbrev pub invariant-edits : goal.invariant-edits
invariant-edits g l = l.chain.due ≡ []
