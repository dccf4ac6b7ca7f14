-- What is stale before an edit is stale behind it, or changed: reaching a changed cell only grows.
use Rattle.std.proofs.Common.{◌≡◌, ℕ, zero, suc, Bool, true, false, ◌||◌, ◌&&◌, List, refl, ap, sym, ◌∙◌}
use Rattle.std.specs.List.{list_any}
use Rattle.cell_refs.specs.declared.grid.Cell.{Cell}
use Rattle.cell_refs.specs.Cell.{is_among}
use Rattle.workbook.specs.declared.contents.Content.{Content}
use Rattle.workbook.specs.Book.{IsInOrder, cell_precedents, content_at, content_precedents, formula_count, is_formula}
use Rattle.workbook.specs.Stale.{is_stale, reaches}
use Rattle.workbook.proofs.PublicLaws.{any_leads, or_left, reaches-enough}

or_both : (a b c : Bool) → (b ≡ true → c ≡ true) → (a || b) ≡ true → (a || c) ≡ true
or_both true b c leads h = refl
or_both false b c leads h = leads h

-- what isn't so where it leads to what isn't
pub false_before : (a b : Bool) → (a ≡ true → b ≡ true) → b ≡ false → a ≡ false
false_before true b leads h = sym (leads refl) ∙ h
false_before false b leads h = refl

-- a changed cell is reached in no step
among_reaches : (book : List (Cell × Content)) (changed : List Cell) (n : ℕ) (cell : Cell) → is_among changed cell ≡ true → reaches book changed n cell ≡ true
among_reaches book changed zero cell h = h
among_reaches book changed (suc n) cell h = or_left (is_among changed cell) _ h

-- what is reached in any number of steps is reached in as many as there are formula cells
reaches-within : (book : List (Cell × Content)) → IsInOrder book → (changed : List Cell) (n : ℕ) (cell : Cell) → reaches book changed n cell ≡ true → reaches book changed (formula_count book) cell ≡ true
reaches-within book ordered changed zero cell h = among_reaches book changed (formula_count book) cell h
reaches-within book ordered changed (suc n) cell h =
    sym (reaches-enough book ordered changed cell)
    ∙ or_both (is_among changed cell) _ _ (any_leads _ _ (reaches-within book ordered changed n) (cell_precedents book cell)) h

-- a formula cell that isn't stale isn't changed
pub fresh_unchanged : (book : List (Cell × Content)) (changed : List Cell) (cell : Cell) → is_formula book cell ≡ true → is_stale book changed cell ≡ false → is_among changed cell ≡ false
fresh_unchanged book changed cell formula fresh =
    false_before (is_among changed cell) (is_stale book changed cell)
    (λ here. ap (λ b. b && reaches book changed (formula_count book) cell) formula ∙ among_reaches book changed (formula_count book) cell here)
    fresh

-- a book with its changed cells, and a later one with those: no fewer are changed, and the others have the content that they had
pub record IsEdit (before now : List (Cell × Content)) (changed later : List Cell) : Type 0 where
  pub more : (cell : Cell) → is_among later cell ≡ false → is_among changed cell ≡ false
  pub same : (cell : Cell) → is_among later cell ≡ false → content_at before cell ≡ content_at now cell

module _ (before now : List (Cell × Content)) (changed later : List Cell) (ordered : IsInOrder now) (edit : IsEdit before now changed later) where
  -- what is reached is still reached
  still_reaches : (n : ℕ) (cell : Cell) → reaches before changed n cell ≡ true → reaches now later n cell ≡ true
  still_reaches zero cell h = still_changed (is_among later cell) refl
    where
      still_changed : (b : Bool) → is_among later cell ≡ b → is_among later cell ≡ true
      still_changed true is = is
      still_changed false is = absurd (cc (edit.more cell is, h))
  still_reaches (suc n) cell h = by_changed (still_reaches n) (is_among later cell) refl
    where
      by_changed : ((d : Cell) → reaches before changed n d ≡ true → reaches now later n d ≡ true) → (b : Bool) → is_among later cell ≡ b → reaches now later (suc n) cell ≡ true
      by_changed each true is = or_left (is_among later cell) _ is
      by_changed each false is =
          let others = ap (λ b. b || list_any (reaches before changed n) (cell_precedents before cell)) (edit.more cell is) in
          let named = ap (λ content. content_precedents content cell.sheet) (edit.same cell is) in
          ap (λ b. b || list_any (reaches now later n) (cell_precedents now cell)) is
          ∙ any_leads (reaches before changed n) (reaches now later n) each (cell_precedents now cell)
          (ap (list_any (reaches before changed n)) (sym named) ∙ sym others ∙ h)

  -- a formula cell that isn't stale behind an edit had its content before
  pub same_content : (cell : Cell) → is_formula now cell ≡ true → is_stale now later cell ≡ false → content_at before cell ≡ content_at now cell
  same_content cell formula fresh = edit.same cell (fresh_unchanged now later cell formula fresh)

  -- and wasn't stale
  pub fresh_before : (cell : Cell) → is_formula now cell ≡ true → is_stale now later cell ≡ false → is_stale before changed cell ≡ false
  fresh_before cell formula fresh =
      false_before (is_stale before changed cell) (is_stale now later cell)
      (λ stale. ap (λ b. b && reaches now later (formula_count now) cell) formula
      ∙ reaches-within now ordered later (formula_count before) cell (still_reaches (formula_count before) cell (second (is_formula before cell) _ stale)))
      fresh
    where
      second : (a b : Bool) → (a && b) ≡ true → b ≡ true
      second true b h = h
      second false b h = cc
