-- Entries of a book whose cells stand in order.
use Rattle.std.proofs.Common.{◌≡◌, true, false, cond, List, [], ◌∷◌, Some, refl, sym, subst}
use Rattle.std.specs.List.{AllByRecursion, slice_index_or}
use Rattle.std.specs.Map.{keys_of, lookup}
use Rattle.std.specs.List.Sorted.{IsStrictlySortedBy}
use Rattle.std.proofs.lemmas.List.Elements.{recursion_from_All}
use Rattle.std.proofs.lemmas.Option.{slice_get-get_or}
use Rattle.std.proofs.lemmas.Map.Entries.{lookup_from_place}
use Rattle.std.proofs.lemmas.Map.Keys.{IsDistinct-from_sorted}
use Rattle.cell_refs.specs.declared.grid.Cell.{Cell}
use Rattle.cell_refs.specs.Cell.{cell_cmp, same_cell}
use Rattle.cell_refs.proofs.PublicLaws.{same_cell_is, same_cells}

-- what holds of the cell of each entry holds of each cell that has content
pub at_entry : {X : Type 0} (P : Cell → Type 0) (es : List (Cell × X)) (cell : Cell) (x : X) → lookup (same_cell cell) es ≡ Some x → AllByRecursion (λ e. P e.0) es → P cell
at_entry P [] cell x found each = cc
at_entry P (e ∷ es) cell x found each =
    elim (same_cell cell e.0) as (λ b. same_cell cell e.0 ≡ b → cond b (Some e.1) (lookup (same_cell cell) es) ≡ Some x → P cell) [
      | true ↦ λ is _. subst P (sym (same_cell_is cell e.0 is)) each.0
      | false ↦ λ _ later. at_entry P es cell x later each.1
    ] refl found

-- each entry of a book in order is what a look-up of its cell finds
pub own_content : {X : Type 0} (es : List (Cell × X)) → IsStrictlySortedBy cell_cmp (keys_of es) → AllByRecursion (λ e. lookup (same_cell e.0) es ≡ Some e.1) es
own_content es ordered = recursion_from_All _ es (λ k d below.
    let e = slice_index_or es k d in
    lookup_from_place same_cells es k e.0 e.1 (IsDistinct-from_sorted cell_cmp (keys_of es) ordered) (slice_get-get_or es k d below))
