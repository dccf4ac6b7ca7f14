-- One area more: the first cell of all of them, and the next after a cell.
use Rattle.std.proofs.Common.{◌≡◌, ℕ, ◌+◌, ◌≤◌, ◌<◌, Bool, true, false, ◌&&◌, cond, Option, None, Some, List, [], ◌∷◌, length, take, inl, inr, refl, sym, subst, ◌∙◌}
use Rattle.std.specs.List.{slice_index_or}
use Rattle.std.proofs.lemmas.Bool.{and_from, and_left, and_right, or_cases, or_left}
use Rattle.std.proofs.lemmas.List.{take_all}
use Rattle.std.proofs.lemmas.List.Folds.{list_any_more}
use Rattle.cell_refs.specs.declared.areas.Area.{Area}
use Rattle.cell_refs.specs.declared.grid.Cell.{Cell}
use Rattle.cell_refs.specs.Area.{area_has, lies_in}
use Rattle.cell_store.specs.Gathering.{is_less}
use Rattle.cell_store.specs.Scanning.{IsFirst, IsNext, corner, is_before, lesser}
use Rattle.cell_store.proofs.CellsInOrder.{less-one_way, less-upto}
use Rattle.cell_store.proofs.AreaOrder.{corner-first}
use Rattle.cell_store.proofs.AreaPlaces.{before-itself, before-later, first-before}

-- a test that leads to another passes where both do
narrower : (x y : Bool) → (x ≡ true → y ≡ true) → x ≡ (x && y)
narrower true y leads = sym (leads refl)
narrower false y leads = refl

-- a test that leads back to another passes where both do
narrower_right : (x y : Bool) → (y ≡ true → x ≡ true) → y ≡ (x && y)
narrower_right true y leads = refl
narrower_right false true leads = sym (leads refl)
narrower_right false false leads = refl

-- what stands before the lesser of two cells stands before both
pub before-lesser : (a : Option Cell) (b q : Cell) → is_less q (lesser a b) ≡ (is_before a q && is_less q b)
before-lesser None b q = refl
before-lesser (Some a) b q = elim (is_less a b) as (λ x. is_less a b ≡ x → is_less q (cond x a b) ≡ (is_less q a && is_less q b)) [
  | true ↦ λ less. narrower (is_less q a) (is_less q b) (λ before. less-upto q a b before (less-one_way a b less))
  | false ↦ λ upto. narrower_right (is_less q a) (is_less q b) (λ before. less-upto q b a before upto)
] refl

-- what passes the test of an area lies in it alone
one_lies : (area : Area) (q : Cell) → area_has area q ≡ true → lies_in (area ∷ []) q ≡ true
one_lies area q h = or_left (area_has area q) false h

-- the first cell of one area more
pub first-more : (areas : List Area) (i : ℕ) (d : Area) (first : Option Cell) → i < length areas → IsFirst (take i areas) first
    → IsFirst (take (i + 1) areas) (Some (lesser first (corner (slice_index_or areas i d))))
first-more areas i d first below is q lies = before-lesser first (corner (slice_index_or areas i d)) q
    ∙ elim (or_cases (lies_in (take i areas) q) (area_has (slice_index_or areas i d) q) (sym (list_any_more (λ area. area_has area q) areas i d below) ∙ lies)) as (λ _. (is_before first q && is_less q (corner (slice_index_or areas i d))) ≡ false) [
      | inl before ↦ and_left (is_before first q) _ (first-before (take i areas) first is q before)
      | inr last ↦ and_right (is_before first q) _ (corner-first (slice_index_or areas i d) q (one_lies (slice_index_or areas i d) q last))
    ]

-- the first cell of as many areas as there are
pub first-all : (areas : List Area) (i : ℕ) (first : Option Cell) → length areas ≤ i → IsFirst (take i areas) first → IsFirst areas first
first-all areas i first all is = subst (λ some. IsFirst some first) (take_all i areas all) is

-- a test doesn't both pass and fail
never : (b : Bool) → b ≡ true → b ≡ false → (c : Bool) → c ≡ false
never b h k c = cc

-- a place behind the cell with nothing of the areas between the two is the next
is_next : (areas : List Area) (cell : Cell) (next : Option Cell) → is_before next cell ≡ true → ((q : Cell) → lies_in areas q ≡ true → is_less cell q ≡ true → is_before next q ≡ false) → IsNext areas cell next
is_next areas cell None behind each = λ q lies. elim (is_less cell q) as (λ x. is_less cell q ≡ x → x ≡ false) [
  | true ↦ λ less. each q lies less
  | false ↦ λ _. refl
] refl
is_next areas cell (Some n) behind each = (behind, each)

-- the next cell of one area more, where that has none
pub next-stays : (areas : List Area) (i : ℕ) (d : Area) (cell : Cell) (next : Option Cell) → i < length areas → IsNext (take i areas) cell next → IsNext (slice_index_or areas i d ∷ []) cell None
    → IsNext (take (i + 1) areas) cell next
next-stays areas i d cell next below is none = is_next (take (i + 1) areas) cell next (before-itself (take i areas) cell next is) (λ q lies less.
    elim (or_cases (lies_in (take i areas) q) (area_has (slice_index_or areas i d) q) (sym (list_any_more (λ area. area_has area q) areas i d below) ∙ lies)) as (λ _. is_before next q ≡ false) [
      | inl before ↦ before-later (take i areas) cell next is q before less
      | inr last ↦ never (is_less cell q) less (none q (one_lies (slice_index_or areas i d) q last)) (is_before next q)
    ])

-- the next cell of one area more, where that has one
pub next-more : (areas : List Area) (i : ℕ) (d : Area) (cell : Cell) (next : Option Cell) (other : Cell) → i < length areas → IsNext (take i areas) cell next → IsNext (slice_index_or areas i d ∷ []) cell (Some other)
    → IsNext (take (i + 1) areas) cell (Some (lesser next other))
next-more areas i d cell next other below is more = (
  before-lesser next other cell ∙ and_from (is_before next cell) _ (before-itself (take i areas) cell next is) more.0,
  λ q lies less. before-lesser next other q
      ∙ elim (or_cases (lies_in (take i areas) q) (area_has (slice_index_or areas i d) q) (sym (list_any_more (λ area. area_has area q) areas i d below) ∙ lies)) as (λ _. (is_before next q && is_less q other) ≡ false) [
        | inl before ↦ and_left (is_before next q) _ (before-later (take i areas) cell next is q before less)
        | inr last ↦ and_right (is_before next q) _ (more.1 q (one_lies (slice_index_or areas i d) q last) less)
      ],
)

-- the next cell of as many areas as there are
pub next-all : (areas : List Area) (i : ℕ) (cell : Cell) (next : Option Cell) → length areas ≤ i → IsNext (take i areas) cell next → IsNext areas cell next
next-all areas i cell next all is = subst (λ some. IsNext some cell next) (take_all i areas all) is
