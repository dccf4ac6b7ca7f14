use Rattle.cell_chain.proofs.tests.a_new_cell_takes_the_number_of_one_that_is_gone.Given as goal

abbrev pub ghosts-assert_due : goal.ghosts-assert_due
ghosts-assert_due g a = record { name = a.blank.name; parts = a.blank.parts }
