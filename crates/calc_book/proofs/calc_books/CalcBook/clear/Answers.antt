use Rattle.std.proofs.Common.{None, ◌∷◌, refl}
use Rattle.std.specs.Map.{remove_entry}
use Rattle.cell_refs.specs.Cell.{same_cell}
use Rattle.calc_book.proofs.EditLaws.{edit-rests}
use Rattle.calc_book.proofs.calc_books.CalcBook.clear.Goals as goal

pub returns-clause-ok : goal.returns-clause-ok
returns-clause-ok c s before =
    let cell = c.args.cell in
    let law = c.what_follows_a_book_still_does_after_an_edit.ensures in
    let did = c.clear_content.ensures in
    edit-rests _ c.args.self.now _ s cell None (remove_entry (same_cell cell)) before did.book did.contents did.ordered did.changed did.chain refl refl refl
    (law.table s.book (remove_entry (same_cell cell) s.book) s.changed (cell ∷ s.changed) c.args.self.now.table)
    (law.shows s.book (remove_entry (same_cell cell) s.book) s.changed (cell ∷ s.changed) c.args.self.now.store)
