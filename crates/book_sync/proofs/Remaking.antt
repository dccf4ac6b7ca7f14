-- A table that is made from a book, cell by cell.
use Rattle.std.proofs.Common.{◌≡◌, Bool, true, false, cond, ◌||◌, List, [], ◌∷◌, ◌++◌, Option, None, Some, refl, ap, sym, subst, ◌∙◌}
use Rattle.std.specs.Map.{lookup}
use Rattle.cell_refs.specs.declared.areas.Area.{Area}
use Rattle.cell_refs.specs.declared.grid.Cell.{Cell}
use Rattle.cell_refs.specs.Cell.{is_among, same_cell}
use Rattle.cell_refs.proofs.PublicLaws.{same_cell_is}
use Rattle.formula_parse.specs.Tree.{areas_named}
use Rattle.stale_marks.specs.Marks.{ChangesOnly}
use Rattle.workbook.specs.declared.contents.Content.{Content}
use Rattle.workbook.specs.declared.contents.Content.TheVariants as contents
use Rattle.workbook.specs.Book.{IsInOrder, by_content, cells_after, content_at, first_cell, formula_cells, has_formula, next_cell}
use Rattle.workbook.proofs.PublicLaws.{formula_cells-has, next-formulas}
use Rattle.book_sync.specs.Following.{TableFollows, formula_areas}

-- the table has of each cell that isn't left what its formula names
abbrev pub FollowsSoFar : List (Cell × Content) → Option Cell → List (Cell × List Area) → Type 0
FollowsSoFar book after table = IsInOrder book → (q : Cell) → is_among (formula_cells (cells_after after book)) q ≡ false → lookup (same_cell q) table ≡ formula_areas book q

unnamed : (content : Option Content) (cell : Cell) → has_formula content ≡ false → None ≡ by_content {A = Option (List Area)} (λ v. None) (λ tree. Some (areas_named tree cell.sheet)) content
unnamed None cell h = refl
unnamed (Some (contents.Num n)) cell h = refl
unnamed (Some (contents.Text t)) cell h = refl
unnamed (Some (contents.Bool b)) cell h = refl
unnamed (Some (contents.Error e)) cell h = refl
unnamed (Some (contents.Formula tree)) cell h = absurd (cc)

-- at first all are left
pub so_far-empty : (book : List (Cell × Content)) (table : List (Cell × List Area)) → table ≡ [] → FollowsSoFar book None table
so_far-empty book table empty ordered q none = ap (lookup (same_cell q)) empty ∙ unnamed (content_at book q) q (sym (formula_cells-has book ordered q) ∙ none)

behind : (formula : Bool) (c q : Cell) (rest : List Cell) → same_cell q c ≡ false → is_among rest q ≡ false → is_among (cond formula (c ∷ []) [] ++ rest) q ≡ false
behind true c q rest apart none = ap (λ b. b || is_among rest q) apart ∙ none
behind false c q rest apart none = none

-- one more cell
pub so_far-more : (book : List (Cell × Content)) (after : Option Cell) (c : Cell) (old new : List (Cell × List Area)) → IsInOrder book → next_cell book after ≡ Some c
    → lookup (same_cell c) new ≡ formula_areas book c → ChangesOnly old new c → FollowsSoFar book after old → FollowsSoFar book (Some c) new
so_far-more book after c old new in_order next here only before ordered q none =
    elim (same_cell q c) as (λ b. same_cell q c ≡ b → lookup (same_cell q) new ≡ formula_areas book q) [
      | true ↦ λ same. subst (λ d. lookup (same_cell d) new ≡ formula_areas book d) (sym (same_cell_is q c same)) here
      | false ↦ λ apart. sym (only q apart) ∙ before ordered q (
          ap (λ cells. is_among cells q) (next-formulas book ordered after c next) ∙ behind _ c q (formula_cells (cells_after (Some c) book)) apart none
          )
    ] refl

none_left : (book : List (Cell × Content)) → first_cell book ≡ None → formula_cells book ≡ []
none_left [] h = refl
none_left (e ∷ es) h = absurd (cc)

-- at the end none is left
pub so_far-whole : (book : List (Cell × Content)) (after : Option Cell) (table : List (Cell × List Area)) → IsInOrder book → next_cell book after ≡ None → FollowsSoFar book after table → TableFollows book [] table
so_far-whole book after table ordered next before q _ = before ordered q (ap (λ cells. is_among cells q) (none_left (cells_after after book) next))
