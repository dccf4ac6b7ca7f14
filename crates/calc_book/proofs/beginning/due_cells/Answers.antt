use Rattle.std.proofs.Common.{◌≡◌, Result, Ok, Err, IfOk, not, sym, subst, ◌∙◌, ap}
use Rattle.std.specs.List.{IsDistinct, filter}
use Rattle.std.proofs.lemmas.Map.Keys.{IsDistinct-from_sorted}
use Rattle.calc_book.specs.Begun.{names_itself}
use Rattle.calc_book.proofs.BeginningLists.{distinct-filter}
use Rattle.cell_refs.specs.Cell.{cell_cmp, same_cell}
use Rattle.calc_book.proofs.beginning.due_cells.Goals as goal

ok-leads : {A E : Type 0} (r : Result A E) (P Q : A → Type 0) → ((x : A) → P x → Q x) → IfOk r P → IfOk r Q
ok-leads (Ok x) P Q leads h = leads x h
ok-leads (Err e) P Q leads h = tt

pub returns-in-Ok-clause-once : goal.returns-in-Ok-clause-once
returns-in-Ok-clause-once c =
    ok-leads c.naming_others.result
    (λ due. due.items ≡ filter (λ q. not (names_itself c.args.table.now q)) c.as_slice.result.now)
    (λ due. IsDistinct same_cell due.items)
    (λ due is. subst (IsDistinct same_cell) (sym (is ∙ ap (filter (λ q. not (names_itself c.args.table.now q))) c.as_slice.ensures.value))
    (distinct-filter (λ q. not (names_itself c.args.table.now q)) c.in-Ok.cells.items (IsDistinct-from_sorted cell_cmp _ c.in-Ok.ensures.ordered)))
    c.naming_others.ensures
