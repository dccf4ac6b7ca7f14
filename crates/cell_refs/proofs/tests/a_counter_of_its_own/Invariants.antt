use Rattle.cell_refs.proofs.tests.a_counter_of_its_own.Given as goal

abbrev pub ghosts-two_steps : goal.ghosts-two_steps
ghosts-two_steps a = record { name = a.blank.name; parts = a.blank.parts }
