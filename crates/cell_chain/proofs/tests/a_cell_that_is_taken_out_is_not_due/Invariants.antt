use Rattle.cell_chain.proofs.tests.a_cell_that_is_taken_out_is_not_due.Given as goal

abbrev pub ghosts-assert_due : goal.ghosts-assert_due
ghosts-assert_due g a = record { name = a.blank.name; parts = a.blank.parts }
