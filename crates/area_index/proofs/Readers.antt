-- The readers that are found, as a list in cell order.
use Rattle.std.proofs.Common.{◌≡◌, ℕ, Bool, true, false, cond, ◌&&◌, ◌⊎◌, List, [], ◌∷◌, refl, ap, sym, ◌∙◌, subst, inl, inr}
use Rattle.std.specs.Prelude.{map}
use Rattle.std.specs.List.{AllByRecursion, list_any, filter, dedup}
use Rattle.std.specs.List.Sorted.{IsStrictlySortedBy}
use Rattle.std.specs.Cmp.{both_ways}
use Rattle.std.proofs.lemmas.Bool.{or_cases, or_left, or_right, eqb-true}
use Rattle.std.proofs.lemmas.List.Kept.{Contains-dedup, Contains-from_dedup}
use Rattle.std.proofs.lemmas.Map.Views.{Contains-from_any, list_any-from_Contains}
use Rattle.cell_refs.specs.declared.areas.Area.{Area}
use Rattle.cell_refs.specs.declared.grid.Cell.{Cell}
use Rattle.cell_refs.specs.Area.{area_has}
use Rattle.cell_refs.specs.Cell.{cell_cmp, is_among, same_cell}
use Rattle.cell_refs.proofs.PublicLaws.{same_cell_is, same_cells}
use Rattle.area_index.specs.declared.pairs.Pair.{Pair}
use Rattle.area_index.specs.Pairs.{same_pair}
use Rattle.area_index.specs.Shapes.{in_order}
use Rattle.area_index.specs.Walk.{readers_at}
use Rattle.area_index.specs.Forests.{Forest, pairs_on, tree_in, has_pair, pair_at, AreReadersAt}
use Rattle.area_index.proofs.Forests.{same_pair_is, same_pairs}

-- leaving out repeats keeps each cell
pub among-dedup : (cells : List Cell) (q : Cell) → is_among (dedup same_cell cells) q ≡ is_among cells q
among-dedup cells q =
    both_ways (is_among (dedup same_cell cells) q) (is_among cells q)
    (λ h. list_any-from_Contains same_cells q cells (Contains-from_dedup same_cell cells q (Contains-from_any same_cell_is q (dedup same_cell cells) h)))
    (λ h. list_any-from_Contains same_cells q (dedup same_cell cells) (Contains-dedup same_cells same_cell_is cells q (Contains-from_any same_cell_is q cells h)))

-- a reader that is found is that of a pair whose area has the cell
each_reader : (pairs : List Pair) (cell reader : Cell) → is_among (readers_at pairs cell) reader ≡ true → (p : Pair) × (list_any (same_pair p) pairs ≡ true) × (p.reader ≡ reader) × (area_has p.area cell ≡ true)
each_reader [] cell reader h = cc
each_reader (p ∷ pairs) cell reader h = by (area_has p.area cell) refl (each_reader pairs cell reader) h where
  later : ((q : Pair) × (list_any (same_pair q) pairs ≡ true) × (q.reader ≡ reader) × (area_has q.area cell ≡ true)) → (q : Pair) × (list_any (same_pair q) (p ∷ pairs) ≡ true) × (q.reader ≡ reader) × (area_has q.area cell ≡ true)
  later f = (f.0, or_right (same_pair f.0 p) _ f.1, f.2, f.3)

  by : (w : Bool) → area_has p.area cell ≡ w → (is_among (readers_at pairs cell) reader ≡ true → (q : Pair) × (list_any (same_pair q) pairs ≡ true) × (q.reader ≡ reader) × (area_has q.area cell ≡ true)) → is_among (map (λ r. r.reader) (cond w (p ∷ filter (λ r. area_has r.area cell) pairs) (filter (λ r. area_has r.area cell) pairs))) reader ≡ true → (q : Pair) × (list_any (same_pair q) (p ∷ pairs) ≡ true) × (q.reader ≡ reader) × (area_has q.area cell ≡ true)
  by true has rest k = elim (or_cases (same_cell reader p.reader) (is_among (readers_at pairs cell) reader) k) as (λ _. (q : Pair) × (list_any (same_pair q) (p ∷ pairs) ≡ true) × (q.reader ≡ reader) × (area_has q.area cell ≡ true)) [
    | inl here ↦ (p, or_left (same_pair p p) _ (same_pairs.refl p), sym (same_cell_is reader p.reader here), has)
    | inr more ↦ later (rest more)
  ]
  by false has rest k = later (rest k)

-- the reader of a pair whose area has the cell is found
all_readers : (pairs : List Pair) (cell : Cell) (p : Pair) → list_any (same_pair p) pairs ≡ true → area_has p.area cell ≡ true → is_among (readers_at pairs cell) p.reader ≡ true
all_readers [] cell p h has = h
all_readers (q ∷ pairs) cell p h has = by (area_has q.area cell) refl (or_cases (same_pair p q) (list_any (same_pair p) pairs) h) (λ k. all_readers pairs cell p k has) where
  by : (w : Bool) → area_has q.area cell ≡ w → (same_pair p q ≡ true) ⊎ (list_any (same_pair p) pairs ≡ true) → (list_any (same_pair p) pairs ≡ true → is_among (readers_at pairs cell) p.reader ≡ true) → is_among (map (λ r. r.reader) (cond w (q ∷ filter (λ r. area_has r.area cell) pairs) (filter (λ r. area_has r.area cell) pairs))) p.reader ≡ true
  by true is (inl same) rest = or_left _ _ (subst (λ r. same_cell p.reader r.reader ≡ true) (same_pair_is p q same) (same_cells.refl p.reader))
  by true is (inr more) rest = or_right (same_cell p.reader q.reader) _ (rest more)
  by false is (inl same) rest = let e : true ≡ false = sym has ∙ ap (λ r. area_has r.area cell) (same_pair_is p q same) ∙ is in cc
  by false is (inr more) rest = rest more

front_true : (a b : Bool) → (a && b) ≡ true → a ≡ true
front_true true b h = refl
front_true false b h = h

same_sheet : (area : Area) (cell : Cell) → area_has area cell ≡ true → cell.sheet ≡ area.sheet
same_sheet area cell h = eqb-true cell.sheet area.sheet (front_true _ _ h)

-- cells in order that are those found are the readers
pub are_readers : (forest : Forest) (cell : Cell) (cells readers : List Cell) → cells ≡ readers_at (pairs_on forest cell.sheet) cell → ((q : Cell) → is_among readers q ≡ is_among cells q) → IsStrictlySortedBy cell_cmp readers → AreReadersAt forest cell readers
unfolding has_pair
are_readers forest cell cells readers e same sorted = record {
  sorted = sorted;
  each = λ reader h.
      let f = each_reader (pairs_on forest cell.sheet) cell reader (subst (λ xs. is_among xs reader ≡ true) e (sym (same reader) ∙ h)) in
      let one : pair_at reader f.0.area ≡ f.0 = ap (λ r. pair_at r f.0.area) (sym f.2) in
      (f.0.area, subst (λ p. list_any (same_pair p) (in_order (tree_in forest p.area.sheet)) ≡ true) (sym one) (subst (λ s. list_any (same_pair f.0) (in_order (tree_in forest s)) ≡ true) (same_sheet f.0.area cell f.3) f.1), f.3);
  all = λ reader area h has.
      same reader ∙ subst (λ xs. is_among xs reader ≡ true) (sym e) (all_readers (pairs_on forest cell.sheet) cell (pair_at reader area) (subst (λ s. list_any (same_pair (pair_at reader area)) (in_order (tree_in forest s)) ≡ true) (sym (same_sheet area cell has)) h) has);
}

own_sheet : (pairs : List Pair) (sheet : ℕ) (p : Pair) → AllByRecursion (λ q. q.area.sheet ≡ sheet) pairs → list_any (same_pair p) pairs ≡ true → p.area.sheet ≡ sheet
own_sheet [] sheet p a h = cc
own_sheet (q ∷ pairs) sheet p a h = elim (or_cases (same_pair p q) (list_any (same_pair p) pairs) h) as (λ _. p.area.sheet ≡ sheet) [
  | inl same ↦ ap (λ r. r.area.sheet) (same_pair_is p q same) ∙ a.0
  | inr more ↦ own_sheet pairs sheet p a.1 more
]

-- the pairs of a sheet are those of the index on it
pub own_pairs : (forest : Forest) (sheet : ℕ) → AllByRecursion (λ q. q.area.sheet ≡ sheet) (pairs_on forest sheet) → (p : Pair) → list_any (same_pair p) (pairs_on forest sheet) ≡ true → (has_pair forest p ≡ true) × (p.area.sheet ≡ sheet)
unfolding has_pair
own_pairs forest sheet a p h =
    let e = own_sheet (pairs_on forest sheet) sheet p a h in
    (subst (λ s. list_any (same_pair p) (in_order (tree_in forest s)) ≡ true) (sym e) h, e)
