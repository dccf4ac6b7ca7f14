-- Cells from which no changed cell is reached, in two books that differ at changed cells alone.
use Rattle.std.proofs.Common.{◌≡◌, ℕ, zero, suc, Bool, true, false, ◌||◌, ◌&&◌, List, [], ◌∷◌, refl, ap, sym, ◌∙◌}
use Rattle.std.specs.List.{list_any, AllByRecursion}
use Rattle.cell_refs.specs.declared.grid.Cell.{Cell}
use Rattle.cell_refs.specs.Cell.{is_among}
use Rattle.workbook.specs.declared.contents.Content.{Content}
use Rattle.workbook.specs.Book.{IsInOrder, content_at, has_formula, content_precedents, is_formula, cell_precedents, formula_count}
use Rattle.workbook.specs.Circular.{walks_on, is_circular}
use Rattle.workbook.specs.Stale.{reaches, is_stale}
use Rattle.workbook.proofs.Walking.{circular-walks}
use Rattle.workbook.proofs.Reaching.{or_false, reaches-enough, reaches-constant}
use Rattle.workbook.proofs.Meanings.{none_where}

-- two truth values that lead to each other
both_ways : (a b : Bool) → (a ≡ true → b ≡ true) → (b ≡ true → a ≡ true) → a ≡ b
both_ways true b there back = sym (there refl)
both_ways false true there back = back refl
both_ways false false there back = refl

-- what is in neither of two
not_both : (formula reached : Bool) → (formula && reached) ≡ false → formula ≡ true → reached ≡ false
not_both true reached h e = h
not_both false reached h e = cc

-- nothing is in both where it isn't in one
and_none : (a : Bool) → (a && false) ≡ false
and_none true = refl
and_none false = refl

module _ (now : List (Cell × Content)) (changed : List Cell) where
  -- no changed cell is reached
  abbrev pub IsClean : Cell → Type 0
  IsClean cell = reaches now changed (formula_count now) cell ≡ false

  -- such a cell isn't stale
  pub clean-fresh : (cell : Cell) → IsClean cell → is_stale now changed cell ≡ false
  clean-fresh cell h = ap (λ b. is_formula now cell && b) h ∙ and_none (is_formula now cell)

  -- a cell that is neither changed nor stale is such a cell
  pub fresh-clean : (cell : Cell) → is_among changed cell ≡ false → is_stale now changed cell ≡ false → IsClean cell
  fresh-clean cell unchanged fresh = elim (is_formula now cell) as (λ b. is_formula now cell ≡ b → reaches now changed (formula_count now) cell ≡ false) [
    | true ↦ λ e. not_both _ _ fresh e
    | false ↦ λ e. reaches-constant now changed (formula_count now) cell e ∙ unchanged
  ] refl

module _ (before now : List (Cell × Content)) (changed : List Cell) (before_ordered : IsInOrder before) (now_ordered : IsInOrder now) (kept : (c : Cell) → is_among changed c ≡ false → content_at before c ≡ content_at now c) where
  -- it isn't changed, and no changed cell is reached from those that it names
  clean-parts : (c : Cell) → IsClean now changed c → (is_among changed c ≡ false) × (list_any (reaches now changed (formula_count now)) (cell_precedents now c) ≡ false)
  clean-parts c h = or_false _ _ (reaches-enough now now_ordered changed c ∙ h)

  -- it has the same content
  pub clean-content : (c : Cell) → IsClean now changed c → content_at before c ≡ content_at now c
  clean-content c h = kept c (clean-parts c h).0

  -- the cells that it names are such cells
  pub clean-named : (c : Cell) → IsClean now changed c → AllByRecursion (IsClean now changed) (cell_precedents now c)
  clean-named c h = none_where (reaches now changed (formula_count now)) (IsClean now changed) (λ d e. e) (cell_precedents now c) (clean-parts c h).1

  -- it names the same cells
  pub named_alike : (c : Cell) → IsClean now changed c → cell_precedents before c ≡ cell_precedents now c
  named_alike c h = ap (λ o. content_precedents o c.sheet) (clean-content c h)

  any_where : (p q : Cell → Bool) → ((d : Cell) → IsClean now changed d → p d ≡ q d) → (ds : List Cell) → AllByRecursion (IsClean now changed) ds → list_any p ds ≡ list_any q ds
  any_where p q alike [] each = refl
  any_where p q alike (d ∷ ds) each = ap (λ b. b || list_any p ds) (alike d each.0) ∙ ap (λ b. q d || b) (any_where p q alike ds each.1)

  -- the same walks lead from it
  walks_alike : (n : ℕ) (c : Cell) → IsClean now changed c → walks_on before n c ≡ walks_on now n c
  walks_alike zero c h = ap has_formula (clean-content c h)
  walks_alike (suc n) c h =
      ap (list_any (walks_on before n)) (named_alike c h)
      ∙ any_where (walks_on before n) (walks_on now n) (walks_alike n) (cell_precedents now c) (clean-named c h)

  -- it is circular in both books or in none
  pub circular_alike : (c : Cell) → IsClean now changed c → is_circular before c ≡ is_circular now c
  circular_alike c h =
      both_ways (is_circular before c) (is_circular now c)
      (λ e. sym (walks_alike (formula_count now) c h) ∙ circular-walks before before_ordered (formula_count now) c e)
      (λ e. walks_alike (formula_count before) c h ∙ circular-walks now now_ordered (formula_count before) c e)
