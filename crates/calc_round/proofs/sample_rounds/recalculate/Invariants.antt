use Rattle.calc_round.proofs.sample_rounds.recalculate.Given as goal

abbrev pub ghosts-counting : goal.ghosts-counting
ghosts-counting g a = record { name = a.blank.name; parts = a.blank.parts }
