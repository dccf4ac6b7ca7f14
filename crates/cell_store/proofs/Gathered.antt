-- What is gathered at each step of a walk over the entries of areas, and at its end.
use Rattle.std.proofs.Common.{◌≡◌, true, false, cond, List, [], ◌∷◌, ◌++◌, Option, Some, None, append_assoc, refl, ap, sym, subst, ◌∙◌}
use Rattle.std.specs.Option.{option_map}
use Rattle.std.specs.List.{filter}
use Rattle.std.specs.List.Sorted.{IsStrictlySortedBy}
use Rattle.std.specs.Map.{keys_of}
use Rattle.std.proofs.lemmas.List.{append-nil, map-append}
use Rattle.std.proofs.lemmas.Map.Entries.{lookup-filter-keys}
use Rattle.cell_refs.specs.declared.areas.Area.{Area}
use Rattle.cell_refs.specs.declared.grid.Cell.{Cell}
use Rattle.cell_refs.specs.Area.{lies_in}
use Rattle.cell_refs.specs.Cell.{cell_cmp, same_cell}
use Rattle.cell_refs.proofs.PublicLaws.{same_cell_is}
use Rattle.cell_values.specs.declared.values.Value.{Value}
use Rattle.cell_store.specs.Gathering.{AreGathered}
use Rattle.cell_store.specs.Scanning.{IsFirst, IsNext}
use Rattle.cell_store.specs.Store.{AreInOrder, entry_at}
use Rattle.cell_store.specs.Walking.{entries_from, entries_inside, with_values}
use Rattle.cell_store.proofs.Entries.{order_kept}
use Rattle.cell_store.proofs.Walked.{IsLeft, left-jump, left-start}

-- at the start all that lies in the areas is ahead
pub gathered-first : (entries : List (Cell × Option Value)) (areas : List Area) (first : Option Cell) → IsFirst areas first → entries_inside areas (entries_from first entries) ≡ entries_inside areas entries
gathered-first entries areas first is = left-start areas (λ e. lies_in areas e.0) (λ e h. h) entries None first is ∙ ap (entries_inside areas) (all entries)
  where
    all : (es : List (Cell × Option Value)) → filter (λ e. true) es ≡ es
    all [] = refl
    all (e ∷ es) = ap (λ xs. e ∷ xs) (all es)

-- one more value is gathered
pub gathered-more : (areas : List Area) (old new : List (Cell × Value)) (left rest whole : List (Cell × Option Value)) (e : Cell × Option Value) (v : Value)
    → left ≡ e ∷ rest → lies_in areas e.0 ≡ true → e.1 ≡ Some v → new ≡ old ++ (e.0, v) ∷ [] → with_values old ++ entries_inside areas left ≡ whole → with_values new ++ entries_inside areas rest ≡ whole
gathered-more areas old new left rest whole e v first lies value added gathered =
    ap (λ es. with_values es ++ entries_inside areas rest) added
    ∙ ap (λ es. es ++ entries_inside areas rest) (map-append (λ (d : Cell × Value). (d.0, Some d.1)) old ((e.0, v) ∷ []))
    ∙ append_assoc (with_values old) ((e.0, Some v) ∷ []) (entries_inside areas rest)
    ∙ ap (λ o. with_values old ++ (e.0, o) ∷ entries_inside areas rest) (sym value)
    ∙ ap (λ b. with_values old ++ cond b (e ∷ entries_inside areas rest) (entries_inside areas rest)) (sym lies)
    ∙ ap (λ es. with_values old ++ entries_inside areas es) (sym first)
    ∙ gathered

-- beside the areas the walk goes on at their next cell
pub gathered-beside : (areas : List Area) (entries : List (Cell × Option Value)) (old : List (Cell × Value)) (seek : Cell) (left rest whole : List (Cell × Option Value)) (e : Cell × Option Value) (next : Option Cell)
    → AreInOrder entries → left ≡ e ∷ rest → IsLeft entries seek (e ∷ rest) → IsNext areas e.0 next → lies_in areas e.0 ≡ false → with_values old ++ entries_inside areas left ≡ whole → with_values old ++ entries_inside areas (entries_from next entries) ≡ whole
gathered-beside areas entries old seek left rest whole e next ordered first is after beside gathered =
    ap (λ es. with_values old ++ es) (left-jump areas (λ d. lies_in areas d.0) (λ d h. h) entries seek e rest next ordered is after beside)
    ∙ ap (λ es. with_values old ++ entries_inside areas es) (sym first)
    ∙ gathered

-- ---- the end
-- the cells of entries with values
keys_with : (es : List (Cell × Value)) → keys_of (with_values es) ≡ keys_of es
keys_with [] = refl
keys_with (e ∷ es) = ap (λ ks. e.0 ∷ ks) (keys_with es)

-- what is found among them
found_with : (q : Cell) (es : List (Cell × Value)) → option_map Some (entry_at es q) ≡ entry_at (with_values es) q
found_with q [] = refl
found_with q (e ∷ es) = elim (same_cell q e.0) as (λ b. option_map Some (cond b (Some e.1) (entry_at es q)) ≡ cond b (Some (Some e.1)) (entry_at (with_values es) q)) [
  | true ↦ refl
  | false ↦ found_with q es
]

-- what is found of what lies in the areas
found_inside : (areas : List Area) (es : List (Cell × Option Value)) (q : Cell) → entry_at (entries_inside areas es) q ≡ cond (lies_in areas q) (entry_at es q) None
found_inside areas es q = lookup-filter-keys (same_cell q) (lies_in areas) (lies_in areas q) (λ k same. ap (lies_in areas) (sym (same_cell_is q k same))) es

-- of a choice with nothing there is nothing
nothing_from : {X : Type 0} (o : Option X) → option_map Some o ≡ None → o ≡ None
nothing_from None h = refl
nothing_from (Some x) h = cc

-- where nothing is ahead, all is gathered
pub gathered-all : (areas : List Area) (es : List (Cell × Option Value)) (entries : List (Cell × Value)) (place : Option Cell) → AreInOrder es → place ≡ None → with_values entries ++ entries_inside areas (entries_from place es) ≡ entries_inside areas es
    → AreGathered (entry_at es) areas entries
gathered-all areas es entries place ordered at gathered =
    let all : with_values entries ≡ entries_inside areas es = sym (append-nil (with_values entries)) ∙ ap (λ p. with_values entries ++ entries_inside areas (entries_from p es)) (sym at) ∙ gathered in
    let found = λ (q : Cell). found_with q entries ∙ ap (λ xs. entry_at xs q) all ∙ found_inside areas es q in
    record {
      ordered = subst (IsStrictlySortedBy cell_cmp) (ap keys_of (sym all) ∙ keys_with entries) (order_kept (lies_in areas) es ordered);
      values = λ q lies. found q ∙ ap (λ b. cond b (entry_at es q) None) lies;
      others = λ q beside. nothing_from (entry_at entries q) (found q ∙ ap (λ b. cond b (entry_at es q) None) beside);
    }
