use Rattle.std.proofs.Common.{◌≡◌, []}
use Rattle.cell_chain.proofs.tests.a_chain_written_backward_is_moved_into_order.Given as goal

abbrev pub ghosts-assert_due : goal.ghosts-assert_due
ghosts-assert_due g a = record { name = a.blank.name; parts = a.blank.parts }

-- none is due
abbrev pub invariant-loop-x : goal.invariant-loop-x
invariant-loop-x g l = l.chain.due ≡ []
