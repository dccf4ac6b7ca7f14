use Rattle.calc_book.proofs.BeginningStates.{ok-leads}
use Rattle.calc_book.proofs.NotingLaws.{noted}
use Rattle.calc_book.proofs.calc_books.CalcBook.note_changed.Goals as goal

pub returns-clause-ok : goal.returns-clause-ok
returns-clause-ok c s rest =
    ok-leads _ _ _ (λ puts. noted c.args.self.now s c.note_all.new.changed c.args.cells.now puts rest) c.note_all.ensures.ok
