-- Cells among cells, and the cells of areas as one list.
use Rattle.std.proofs.Common.{◌≡◌, Bool, true, ◌||◌, List, [], ◌∷◌, flat_map, subst, ⊎_elim, arith, inl, inr}
use Rattle.std.specs.Cmp.{both_ways}
use Rattle.std.specs.List.{Contains, list_any}
use Rattle.std.proofs.lemmas.Bool.{or_cases, or_left, or_right}
use Rattle.std.proofs.lemmas.Bool.Decides.{nat_tests}
use Rattle.std.proofs.lemmas.List.Elements.{Contains-append_cases, Contains-append_left, Contains-append_right}
use Rattle.std.proofs.lemmas.Map.Views.{Contains-from_any, list_any-from_Contains}
use Rattle.cell_refs.specs.declared.areas.Area.{Area}
use Rattle.cell_refs.specs.declared.grid.Cell.{Cell}
use Rattle.cell_refs.specs.Area.{IsInside, area_has, cells_of, lies_in}
use Rattle.cell_refs.specs.Cell.{is_among, same_cell}
use Rattle.cell_refs.proofs.CellOrder.{same_cell_is, same_cells}
use Rattle.cell_refs.proofs.Listing.{listed_inside, inside_listed}

-- a test that some cell of a list passes, and the list has a cell that passes it
pub found_among : (p : Cell → Bool) (cells : List Cell) → list_any p cells ≡ true → (q : Cell) × (is_among cells q ≡ true) × (p q ≡ true)
found_among p [] h = cc
found_among p (c ∷ cells) h = elim (or_cases (p c) (list_any p cells) h) as (λ _. (q : Cell) × (is_among (c ∷ cells) q ≡ true) × (p q ≡ true)) [
  | inl here ↦ (c, or_left (same_cell c c) _ (same_cells.refl c), here)
  | inr later ↦ let f = found_among p cells later in (f.0, or_right (same_cell f.0 c) _ f.1, f.2)
]

pub some_among : (p : Cell → Bool) (cells : List Cell) (q : Cell) → is_among cells q ≡ true → p q ≡ true → list_any p cells ≡ true
some_among p [] q among h = among
some_among p (c ∷ cells) q among h = elim (or_cases (same_cell q c) (is_among cells q) among) as (λ _. (p c || list_any p cells) ≡ true) [
  | inl same ↦ or_left (p c) _ (subst (λ d. p d ≡ true) (same_cell_is q c same) h)
  | inr later ↦ or_right (p c) _ (some_among p cells q later h)
]

-- the test of an area finds a cell exactly where it stands between its corners
has_inside : (area : Area) (q : Cell) → area_has area q ≡ true → IsInside area q
has_inside area q h = record {
  sheet = grind (arith, nat_tests, h);
  below = grind (arith, nat_tests, h);
  above = grind (arith, nat_tests, h);
  after = grind (arith, nat_tests, h);
  before = grind (arith, nat_tests, h);
}

inside_has : (area : Area) (q : Cell) → IsInside area q → area_has area q ≡ true
inside_has area q h = grind (arith, nat_tests, h.sheet, h.below, h.above, h.after, h.before)

-- the list has each cell that lies in the areas, and no other
lies_listed : (areas : List Area) (q : Cell) → lies_in areas q ≡ true → Contains (flat_map cells_of areas) q
lies_listed [] q h = absurd (cc)
lies_listed (area ∷ others) q h = ⊎_elim
    (λ here. Contains-append_left (cells_of area) (flat_map cells_of others) q (inside_listed area q (has_inside area q here)))
    (λ later. Contains-append_right (cells_of area) (flat_map cells_of others) q (lies_listed others q later))
    (or_cases (area_has area q) (lies_in others q) h)

none_listed : (q : Cell) → Contains [] q → ⊥
none_listed q (k, l, e) = omega arith

listed_lies : (areas : List Area) (q : Cell) → Contains (flat_map cells_of areas) q → lies_in areas q ≡ true
listed_lies [] q h = absurd (none_listed q h)
listed_lies (area ∷ others) q h = ⊎_elim
    (λ here. or_left (area_has area q) (lies_in others q) (inside_has area q (listed_inside area q here)))
    (λ later. or_right (area_has area q) (lies_in others q) (listed_lies others q later))
    (Contains-append_cases (cells_of area) (flat_map cells_of others) q h)

-- a cell lies in areas exactly where it is one of their cells
pub lies_in-among : (areas : List Area) (q : Cell) → lies_in areas q ≡ is_among (flat_map cells_of areas) q
lies_in-among areas q = both_ways _ _
    (λ lies. list_any-from_Contains same_cells q (flat_map cells_of areas) (lies_listed areas q lies))
    (λ among. listed_lies areas q (Contains-from_any same_cell_is q (flat_map cells_of areas) among))
