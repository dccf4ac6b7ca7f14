-- What is shown of a book, as a list.
use Rattle.std.proofs.Common.{◌≡◌, true, false, cond, Option, Some, List, [], ◌∷◌, map, Result, Ok, Err, IfOk, refl, ap, sym, subst, ◌∙◌}
use Rattle.std.specs.Map.{keys_of, lookup}
use Rattle.std.specs.List.Sorted.{IsStrictlySortedBy}
use Rattle.std.specs.Option.{option_map}
use Rattle.calc_book.specs.declared.calc_books.CalcBook.{CalcBook}
use Rattle.calc_book.specs.CalcState.{CalcState}
use Rattle.calc_book.specs.Keeping.{Holds}
use Rattle.cell_refs.specs.declared.grid.Cell.{Cell}
use Rattle.cell_refs.specs.Cell.{cell_cmp, same_cell}
use Rattle.cell_refs.proofs.PublicLaws.{same_cell_is}
use Rattle.cell_store.specs.Store.{AreInOrder, entry_at, shown_at}
use Rattle.cell_store.proofs.PublicLaws.{equal-alike}
use Rattle.cell_values.specs.declared.values.Value.{Value}
use Rattle.workbook.specs.declared.contents.Content.{Content}
use Rattle.workbook.specs.Meaning.{meaning, sheet_of, shown_value}

module _ (shown : Cell → Option Value) where
  -- entries that show something of each cell of a book have its cells
  same_keys : (book : List (Cell × Content)) → keys_of (map {B = Cell × Option Value} (λ e. (e.0, shown e.0)) book) ≡ keys_of book
  same_keys [] = refl
  same_keys (e ∷ es) = ap (λ ks. e.0 ∷ ks) (same_keys es)

  -- and show that of each of them
  looks : (book : List (Cell × Content)) (q : Cell)
      → lookup (same_cell q) (map {B = Cell × Option Value} (λ e. (e.0, shown e.0)) book) ≡ option_map (λ content. shown q) (lookup (same_cell q) book)
  looks [] q = refl
  looks (e ∷ es) q = elim (same_cell q e.0) as (λ b. same_cell q e.0 ≡ b
      → cond b (Some (shown e.0)) (lookup (same_cell q) (map {B = Cell × Option Value} (λ e. (e.0, shown e.0)) es)) ≡ option_map (λ content. shown q) (cond b (Some e.1) (lookup (same_cell q) es))) [
        | true ↦ λ is. ap (λ c. Some (shown c)) (sym (same_cell_is q e.0 is))
        | false ↦ λ _. looks es q
      ] refl

-- entries in order that have of each cell what is shown of it are the sheet
pub sheet-shown : (b : CalcBook) (s : CalcState) → Holds b s → (sheet : List (Cell × Option Value)) → AreInOrder sheet
    → ((q : Cell) → entry_at sheet q ≡ shown_at b.store q) → sheet ≡ sheet_of s.setting s.completed
sheet-shown b s holds sheet ordered shown =
    let shows = λ (c : Cell). shown_value (meaning s.setting s.completed c) in
    equal-alike sheet (sheet_of s.setting s.completed) ordered
    (subst (IsStrictlySortedBy cell_cmp) (sym (same_keys shows s.completed)) holds.completed)
    (λ q. shown q ∙ holds.shown q ∙ sym (looks shows s.completed q))

-- what follows from two clauses of an answer
pub if_both : {A E : Type 0} (r : Result A E) (P Q R : A → Type 0) → IfOk r P → IfOk r Q → ((a : A) → P a → Q a → R a) → IfOk r R
if_both (Ok a) P Q R p q leads = leads a p q
if_both (Err e) P Q R p q leads = tt
