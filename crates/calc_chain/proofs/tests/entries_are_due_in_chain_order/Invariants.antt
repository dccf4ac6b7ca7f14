use Rattle.calc_chain.proofs.tests.entries_are_due_in_chain_order.Given as goal

abbrev pub ghosts-takes : goal.ghosts-takes
ghosts-takes g a = record { name = a.blank.name; parts = a.blank.parts }
