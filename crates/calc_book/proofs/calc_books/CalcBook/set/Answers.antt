use Rattle.std.proofs.Common.{List, Some, ◌∷◌, refl}
use Rattle.std.specs.BTreeMap.{insert_entry}
use Rattle.cell_refs.specs.declared.grid.Cell.{Cell}
use Rattle.cell_refs.specs.Cell.{cell_cmp}
use Rattle.workbook.specs.declared.contents.Content.{Content}
use Rattle.calc_book.proofs.EditLaws.{edit-rests}
use Rattle.calc_book.proofs.calc_books.CalcBook.set.Goals as goal

pub returns-clause-ok : goal.returns-clause-ok
returns-clause-ok c s before =
    let cell = c.args.cell in
    let make = λ (book : List (Cell × Content)). insert_entry cell_cmp book cell c.args.content in
    let law = c.what_follows_a_book_still_does_after_an_edit.ensures in
    let did = c.set_content.ensures in
    edit-rests _ c.args.self.now _ s cell (Some c.args.content) make before did.book did.contents did.ordered did.changed did.chain refl refl refl
    (law.table s.book (make s.book) s.changed (cell ∷ s.changed) c.args.self.now.table)
    (law.shows s.book (make s.book) s.changed (cell ∷ s.changed) c.args.self.now.store)
