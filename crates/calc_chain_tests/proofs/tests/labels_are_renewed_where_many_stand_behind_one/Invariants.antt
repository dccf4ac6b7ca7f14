use Rattle.std.proofs.Common.{◌≡◌, []}
use Rattle.calc_chain_tests.proofs.tests.labels_are_renewed_where_many_stand_behind_one.Given as goal

-- none is due
abbrev pub invariant-appends : goal.invariant-appends
invariant-appends g l = l.chain.due ≡ []

abbrev pub invariant-moves : goal.invariant-moves
invariant-moves g l = l.chain.due ≡ []
