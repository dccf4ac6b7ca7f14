use Rattle.dep_table.proofs.tables.DepTable.readers.Given as goal

-- the steps are of the ledger that the blank begins
abbrev pub ghosts-readers_uncounted : goal.ghosts-readers_uncounted
ghosts-readers_uncounted a = record { name = a.blank.name; parts = a.blank.parts }
