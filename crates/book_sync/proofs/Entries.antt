-- Entries of a table, looked up after one of them is put or removed.
use Rattle.std.proofs.Common.{◌≡◌, false, cond, List, [], ◌∷◌, Some, None, refl, ap, sym, subst, ◌∙◌}
use Rattle.std.specs.BTreeMap.{insert_entry}
use Rattle.std.specs.List.Sorted.{IsStrictlySortedBy}
use Rattle.std.specs.Map.{keys_of, lookup, remove_entry}
use Rattle.std.specs.Ordering.{is_eq, match_ordering}
use Rattle.std.specs.declared.cmp.Ordering.TheVariants.{Less, Equal, Greater}
use Rattle.std.proofs.lemmas.Map.{lookup-remove_entry}
use Rattle.std.proofs.lemmas.Map.Keys.{IsDistinct-from_sorted}
use Rattle.cell_refs.specs.declared.areas.Area.{Area}
use Rattle.cell_refs.specs.declared.grid.Cell.{Cell}
use Rattle.cell_refs.specs.Cell.{cell_cmp, same_cell}
use Rattle.cell_refs.proofs.PublicLaws.{same_cell_is, same_cells}
use Rattle.dep_table.specs.Table.{IsInOrder}
use Rattle.stale_marks.specs.Marks.{ChangesOnly}

module _ {X : Type 0} where
  -- what was put at a cell is found there
  put-here : (k : Cell) (v : X) (es : List (Cell × X)) → lookup (same_cell k) (insert_entry cell_cmp es k v) ≡ Some v
  put-here k v [] = ap (λ b. cond b (Some v) None) (same_cells.refl k)
  put-here k v (e ∷ es) =
      elim (cell_cmp k e.0) as (λ o. cell_cmp k e.0 ≡ o → lookup (same_cell k) (match_ordering o ((k, v) ∷ e ∷ es) ((e.0, v) ∷ es) (e ∷ insert_entry cell_cmp es k v)) ≡ Some v) [
        | Less ↦ λ _. ap (λ b. cond b (Some v) (lookup (same_cell k) (e ∷ es))) (same_cells.refl k)
        | Equal ↦ λ same. ap (λ o. cond (is_eq o) (Some v) (lookup (same_cell k) es)) same
        | Greater ↦ λ more. ap (λ o. cond (is_eq o) (Some e.1) (lookup (same_cell k) (insert_entry cell_cmp es k v))) more ∙ put-here k v es
      ] refl

  -- and elsewhere is found what was
  put-elsewhere : (k : Cell) (v : X) (q : Cell) → same_cell q k ≡ false → (es : List (Cell × X)) → lookup (same_cell q) (insert_entry cell_cmp es k v) ≡ lookup (same_cell q) es
  put-elsewhere k v q apart [] = ap (λ b. cond b (Some v) None) apart
  put-elsewhere k v q apart (e ∷ es) =
      elim (cell_cmp k e.0) as (λ o. cell_cmp k e.0 ≡ o → lookup (same_cell q) (match_ordering o ((k, v) ∷ e ∷ es) ((e.0, v) ∷ es) (e ∷ insert_entry cell_cmp es k v)) ≡ lookup (same_cell q) (e ∷ es)) [
        | Less ↦ λ _. ap (λ b. cond b (Some v) (lookup (same_cell q) (e ∷ es))) apart
        | Equal ↦ λ same.
            let away : same_cell q e.0 ≡ false = subst (λ c. same_cell q c ≡ false) (same_cell_is k e.0 (ap is_eq same)) apart in
            ap (λ b. cond b (Some v) (lookup (same_cell q) es)) away ∙ sym (ap (λ b. cond b (Some e.1) (lookup (same_cell q) es)) away)
        | Greater ↦ λ _. ap (λ found. cond (same_cell q e.0) (Some e.1) found) (put-elsewhere k v q apart es)
      ] refl

  -- of entries in order a removed one is gone, and the others are found as before
  removed : (k q : Cell) (es : List (Cell × X)) → IsStrictlySortedBy cell_cmp (keys_of es) → lookup (same_cell q) (remove_entry (same_cell k) es) ≡ cond (same_cell k q) None (lookup (same_cell q) es)
  removed k q es ordered = lookup-remove_entry same_cells (same_cell k) (λ x y same. same_cells.congr k x y same) q es (IsDistinct-from_sorted cell_cmp (keys_of es) ordered)

-- a reader that is put has these areas
pub areas-put : (old new : List (Cell × List Area)) (cell : Cell) (areas : List Area) → new ≡ insert_entry cell_cmp old cell areas → lookup (same_cell cell) new ≡ Some areas
areas-put old new cell areas is = ap (lookup (same_cell cell)) is ∙ put-here cell areas old

-- and the others have what they had
pub others-put : (old new : List (Cell × List Area)) (cell : Cell) (areas : List Area) → new ≡ insert_entry cell_cmp old cell areas → ChangesOnly old new cell
others-put old new cell areas is q apart = sym (ap (lookup (same_cell q)) is ∙ put-elsewhere cell areas q apart old)

-- a removed reader has none
pub areas-removed : (old new : List (Cell × List Area)) (cell : Cell) → IsInOrder old → new ≡ remove_entry (same_cell cell) old → lookup (same_cell cell) new ≡ None
areas-removed old new cell ordered is =
    ap (lookup (same_cell cell)) is ∙ removed cell cell old ordered ∙ ap (λ b. cond b None (lookup (same_cell cell) old)) (same_cells.refl cell)

-- and the others have what they had
pub others-removed : (old new : List (Cell × List Area)) (cell : Cell) → IsInOrder old → new ≡ remove_entry (same_cell cell) old → ChangesOnly old new cell
others-removed old new cell ordered is q apart =
    sym (ap (lookup (same_cell q)) is ∙ removed cell q old ordered ∙ ap (λ b. cond b None (lookup (same_cell q) old)) (same_cells.symm cell q ∙ apart))
