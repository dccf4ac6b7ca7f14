use Rattle.calc_book.proofs.calc_books.CalcBook.work_out.Given as goal

-- the steps are those of the blank that is made for them
abbrev pub ghosts-evaluate : goal.ghosts-evaluate
ghosts-evaluate g a = record { name = a.blank.name; parts = a.blank.parts }
