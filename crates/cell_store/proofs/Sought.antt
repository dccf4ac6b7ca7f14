-- The cells of areas without a value, at each step of a walk over entries, and at its end.
use Rattle.std.proofs.Common.{◌≡◌, Bool, true, false, cond, ◌&&◌, List, ◌∷◌, Option, Some, None, is_some, is_none, refl, ap, sym, subst, ◌∙◌}
use Rattle.std.specs.List.{filter}
use Rattle.std.specs.Map.{keys_of}
use Rattle.std.proofs.lemmas.Map.Entries.{lookup-filter-keys, lookup-filter-values, option_filter}
use Rattle.std.proofs.lemmas.Map.Keys.{IsDistinct-from_sorted}
use Rattle.cell_refs.specs.declared.areas.Area.{Area}
use Rattle.cell_refs.specs.declared.grid.Cell.{Cell}
use Rattle.cell_refs.specs.Area.{lies_in}
use Rattle.cell_refs.specs.Cell.{cell_cmp, same_cell}
use Rattle.cell_refs.proofs.PublicLaws.{same_cell_is, same_cells}
use Rattle.cell_values.specs.declared.values.Value.{Value}
use Rattle.cell_store.specs.Gathering.{IsLeast, has_no_value, is_behind, is_less, is_sought}
use Rattle.cell_store.specs.Scanning.{IsFirstBehind, IsNext}
use Rattle.cell_store.specs.Store.{AreInOrder, entry_at}
use Rattle.cell_store.specs.Walking.{entries_from, unknowns_inside}
use Rattle.cell_store.proofs.CellsInOrder.{less-not_itself, less-one_way}
use Rattle.cell_store.proofs.Entries.{at_key, behind_first, found_first, kept_twice, keys_lead, order_kept, order_passed, first_passes}
use Rattle.cell_store.proofs.Walked.{IsLeft, left-jump, left-start}

-- an entry without a value that is looked for lies in the areas
lies_inside : (areas : List Area) (e : Cell × Option Value) → (lies_in areas e.0 && is_none e.1) ≡ true → lies_in areas e.0 ≡ true
lies_inside areas e h = first_passes (lies_in areas e.0) (is_none e.1) h

-- at the start all cells without a value are ahead
pub sought-start : (areas : List Area) (entries : List (Cell × Option Value)) (after first : Option Cell) → IsFirstBehind areas after first
    → unknowns_inside areas (entries_from first entries) ≡ unknowns_inside areas (filter (λ e. is_behind after e.0) entries)
sought-start areas entries after first is = left-start areas (λ e. lies_in areas e.0 && is_none e.1) (lies_inside areas) entries after first is

-- beside the areas the walk goes on at their next cell
pub sought-beside : (areas : List Area) (entries : List (Cell × Option Value)) (seek : Cell) (left rest whole : List (Cell × Option Value)) (e : Cell × Option Value) (next : Option Cell)
    → AreInOrder entries → left ≡ e ∷ rest → IsLeft entries seek (e ∷ rest) → IsNext areas e.0 next → lies_in areas e.0 ≡ false → unknowns_inside areas left ≡ whole → unknowns_inside areas (entries_from next entries) ≡ whole
sought-beside areas entries seek left rest whole e next ordered first is after beside same =
    left-jump areas (λ d. lies_in areas d.0 && is_none d.1) (lies_inside areas) entries seek e rest next ordered is after beside
    ∙ ap (unknowns_inside areas) (sym first)
    ∙ same

-- a cell with a value isn't looked for
pub sought-passes : (areas : List Area) (left rest whole : List (Cell × Option Value)) (e : Cell × Option Value) → left ≡ e ∷ rest → lies_in areas e.0 ≡ true → is_none e.1 ≡ false → unknowns_inside areas left ≡ whole → unknowns_inside areas rest ≡ whole
sought-passes areas left rest whole e first lies value same =
    ap (λ b. cond b (e ∷ unknowns_inside areas rest) (unknowns_inside areas rest)) (sym (ap (λ b. b && is_none e.1) lies ∙ value))
    ∙ ap (unknowns_inside areas) (sym first)
    ∙ same

-- what is none
none_is : {X : Type 0} (o : Option X) → is_none o ≡ true → o ≡ None
none_is None h = refl
none_is (Some x) h = cc

-- a cell without a value is the first that is looked for
pub sought-found : (areas : List Area) (left rest whole : List (Cell × Option Value)) (e : Cell × Option Value) → left ≡ e ∷ rest → lies_in areas e.0 ≡ true → is_none e.1 ≡ true → unknowns_inside areas left ≡ whole
    → (others : List (Cell × Option Value)) × (whole ≡ (e.0, None) ∷ others)
sought-found areas left rest whole e first lies none same = (
  unknowns_inside areas rest,
  sym same
      ∙ ap (unknowns_inside areas) first
      ∙ ap (λ b. cond b (e ∷ unknowns_inside areas rest) (unknowns_inside areas rest)) (ap (λ b. b && is_none e.1) lies ∙ none)
      ∙ ap (λ o. (e.0, o) ∷ unknowns_inside areas rest) (none_is e.1 none),
)

-- ---- the end
-- what a test of the cells keeps of what is found
found_kept : (p : Cell → Bool) (es : List (Cell × Option Value)) (q : Cell) → entry_at (filter (λ e. p e.0) es) q ≡ cond (p q) (entry_at es q) None
found_kept p es q = lookup-filter-keys (same_cell q) p (p q) (λ k same. ap p (sym (same_cell_is q k same))) es

-- one test after another of what is found
by_tests : (behind lies : Bool) (found : Option (Option Value)) → is_some (option_filter is_none (cond lies (cond behind found None) None)) ≡ (behind && (lies && has_no_value found))
by_tests true true None = refl
by_tests true true (Some None) = refl
by_tests true true (Some (Some v)) = refl
by_tests true false found = refl
by_tests false true found = refl
by_tests false false found = refl

-- the cells that are looked for are those found among the entries without a value
found_sought : (areas : List Area) (after : Option Cell) (es : List (Cell × Option Value)) → AreInOrder es → (q : Cell)
    → is_some (entry_at (unknowns_inside areas (filter (λ e. is_behind after e.0) es)) q) ≡ is_sought (entry_at es) areas after q
found_sought areas after es ordered q =
    let behind = filter (λ (e : Cell × Option Value). is_behind after e.0) es in
    let within = filter (λ (e : Cell × Option Value). lies_in areas e.0) behind in
    ap (λ xs. is_some (entry_at xs q)) (sym (kept_twice (λ e. is_none e.1) (λ e. lies_in areas e.0) behind))
    ∙ ap is_some (lookup-filter-values same_cells is_none q within (IsDistinct-from_sorted cell_cmp _ (order_kept (lies_in areas) behind (order_kept (is_behind after) es ordered))))
    ∙ ap (λ o. is_some (option_filter is_none o)) (found_kept (lies_in areas) behind q ∙ ap (λ o. cond (lies_in areas q) o None) (found_kept (is_behind after) es q))
    ∙ by_tests (is_behind after q) (lies_in areas q) (entry_at es q)

-- where nothing is ahead, none is looked for
pub sought-none : (areas : List Area) (after : Option Cell) (es : List (Cell × Option Value)) (place : Option Cell) → AreInOrder es → place ≡ None
    → unknowns_inside areas (entries_from place es) ≡ unknowns_inside areas (filter (λ e. is_behind after e.0) es) → IsLeast (is_sought (entry_at es) areas after) None
sought-none areas after es place ordered at same q =
    sym (found_sought areas after es ordered q) ∙ ap (λ xs. is_some (entry_at xs q)) (sym same ∙ ap (λ p. unknowns_inside areas (entries_from p es)) at)

-- the first one ahead is the least
pub sought-first : (areas : List Area) (after : Option Cell) (es : List (Cell × Option Value)) (place : Option Cell) (seek cell : Cell) → AreInOrder es → place ≡ Some seek
    → unknowns_inside areas (entries_from place es) ≡ unknowns_inside areas (filter (λ e. is_behind after e.0) es)
    → (rest : List (Cell × Option Value)) × (unknowns_inside areas (entries_from (Some seek) es) ≡ (cell, None) ∷ rest) → IsLeast (is_sought (entry_at es) areas after) (Some cell)
sought-first areas after es place seek cell ordered at same first =
    let sought = unknowns_inside areas (filter (λ (e : Cell × Option Value). is_behind after e.0) es) in
    let is : sought ≡ (cell, None) ∷ first.0 = sym same ∙ ap (λ p. unknowns_inside areas (entries_from p es)) at ∙ first.1 in
    let in_order : AreInOrder ((cell, None) ∷ first.0) = subst (λ xs. AreInOrder xs) is (order_passed (λ e. lies_in areas e.0 && is_none e.1) _ (order_kept (is_behind after) es ordered)) in (
      sym (found_sought areas after es ordered cell) ∙ ap (λ xs. is_some (entry_at xs cell)) is ∙ ap is_some (found_first (cell, None) first.0),
      λ q h. at_key (λ k. is_less k cell ≡ false) ((cell, None) ∷ first.0) q
          (ap (λ xs. is_some (entry_at xs q)) (sym is) ∙ found_sought areas after es ordered q ∙ h)
          (less-not_itself cell, keys_lead (λ k. is_less cell k ≡ true) (λ k. is_less k cell ≡ false) (λ k less. less-one_way cell k less) (keys_of first.0) (behind_first (cell, None) first.0 in_order)),
    )
