use Rattle.calc_chain.proofs.tests.an_entry_is_due_once.Given as goal

abbrev pub ghosts-takes : goal.ghosts-takes
ghosts-takes g a = record { name = a.blank.name; parts = a.blank.parts }
