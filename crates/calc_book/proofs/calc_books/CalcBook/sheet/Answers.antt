use Rattle.calc_book.proofs.SheetLaws.{if_both, sheet-shown}
use Rattle.calc_book.proofs.calc_books.CalcBook.sheet.Goals as goal

pub returns : goal.returns
returns c s holds = if_both _ _ _ _ c.sheet.ensures.ordered c.sheet.ensures.shown (λ sheet. sheet-shown _ s holds sheet.items)
