-- Walks over entries in cell order: what is left at each step, and where a walk goes on beside the areas.
use Rattle.std.proofs.Common.{◌≡◌, ◌+◌, ◌<◌, Bool, true, false, not, cond, ◌&&◌, List, [], ◌∷◌, ◌++◌, length, Option, Some, None, append_assoc, length-append, arith, refl, ap, sym, subst, ◌∙◌}
use Rattle.std.specs.List.{AllByRecursion, filter}
use Rattle.std.specs.Map.{keys_of}
use Rattle.std.specs.Ordering.{is_lt, is_le, ordering_reverse}
use Rattle.std.specs.BTreeMap.Range.{entries_between}
use Rattle.std.specs.declared.cmp.Ordering.{Ordering}
use Rattle.std.specs.declared.cmp.Ordering.TheVariants.{Less, Equal, Greater}
use Rattle.std.specs.declared.ops.Bound.TheVariants.{Included, Unbounded}
use Rattle.cell_refs.specs.declared.areas.Area.{Area}
use Rattle.cell_refs.specs.declared.grid.Cell.{Cell}
use Rattle.cell_refs.specs.Area.{lies_in}
use Rattle.cell_refs.specs.Cell.{cell_cmp, same_cell}
use Rattle.cell_refs.proofs.PublicLaws.{cells_total, same_cell_is}
use Rattle.cell_values.specs.declared.values.Value.{Value}
use Rattle.cell_store.specs.Gathering.{is_behind, is_less}
use Rattle.cell_store.specs.Scanning.{IsFirstBehind, IsNext, is_before}
use Rattle.cell_store.specs.Store.{AreInOrder}
use Rattle.cell_store.specs.Walking.{entries_from, steps_ahead}
use Rattle.cell_store.proofs.AreaPlaces.{before-later, both_cannot, first-before}
use Rattle.cell_store.proofs.CellsInOrder.{apart-less, less-not_itself, less-one_way, less-upto, not_less-trans}
use Rattle.cell_store.proofs.Entries.{all_second, behind_first, kept_alike, kept_all, kept_fewer, kept_twice, keys_lead, order_tail}

-- ---- places
-- that a cell isn't greater than another is that the other isn't less
pub level : (a b : Cell) → is_le (cell_cmp a b) ≡ not (is_less b a)
level a b = by_order (cell_cmp a b) (cell_cmp b a) (cells_total.antisymm b a)
  where
    by_order : (o p : Ordering) → p ≡ ordering_reverse o → is_le o ≡ not (is_lt p)
    by_order Less p e = ap (λ r. not (is_lt r)) (sym e)
    by_order Equal p e = ap (λ r. not (is_lt r)) (sym e)
    by_order Greater p e = ap (λ r. not (is_lt r)) (sym e)

-- so a cell from another on
from_here : (a b : Cell) → is_less b a ≡ false → is_le (cell_cmp a b) ≡ true
from_here a b h = level a b ∙ ap not h

-- and one before it
not_from_here : (a b : Cell) → is_less b a ≡ true → is_le (cell_cmp a b) ≡ false
not_from_here a b h = level a b ∙ ap not h

-- a negation's test
negated : (b c : Bool) → not b ≡ c → b ≡ not c
negated true c h = ap not h
negated false c h = ap not h

-- a cell from another on isn't less
upto_here : (a b : Cell) → is_le (cell_cmp a b) ≡ true → is_less b a ≡ false
upto_here a b h = negated (is_less b a) true (sym (level a b) ∙ h)

-- the entries from a place on are those that don't stand before it
from_place : (place : Option Cell) (es : List (Cell × Option Value)) → entries_from place es ≡ filter (λ e. not (is_before place e.0)) es
from_place None [] = refl
from_place None (e ∷ es) = from_place None es
from_place (Some cell) es = kept_alike (λ e. is_le (cell_cmp cell e.0)) (λ e. not (is_less e.0 cell)) (λ e. level cell e.0) es

-- ---- what is left of a walk
-- these are the last of the entries from a cell on
pub record IsLeft (entries : List (Cell × Option Value)) (seek : Cell) (left : List (Cell × Option Value)) : Type 0 where
  pub ahead : List (Cell × Option Value)
  pub is : entries_from (Some seek) entries ≡ ahead ++ left

-- at the start all from the cell on are left
pub left-first : (entries : List (Cell × Option Value)) (seek : Cell) → IsLeft entries seek (entries_from (Some seek) entries)
left-first entries seek = record { ahead = []; is = refl }

-- a map gives those as a range
pub range-from : (entries range : List (Cell × Option Value)) (seek : Cell) → range ≡ entries_between cell_cmp (Included seek) Unbounded entries → range ≡ entries_from (Some seek) entries
range-from entries range seek is = is ∙ kept_alike (λ e. is_le (cell_cmp seek e.0) && true) (λ e. is_le (cell_cmp seek e.0)) (λ e. alone (is_le (cell_cmp seek e.0))) entries
  where
    alone : (b : Bool) → (b && true) ≡ b
    alone true = refl
    alone false = refl

-- behind the first of what is left, the rest is left
pub left-next : (entries : List (Cell × Option Value)) (seek : Cell) (e : Cell × Option Value) (es : List (Cell × Option Value)) → IsLeft entries seek (e ∷ es) → IsLeft entries seek es
left-next entries seek e es left = record { ahead = left.ahead ++ e ∷ []; is = left.is ∙ sym (append_assoc left.ahead (e ∷ []) es) }

-- what is left, where it is equal to another list
pub left-as : (entries : List (Cell × Option Value)) (seek : Cell) (left other : List (Cell × Option Value)) → left ≡ other → IsLeft entries seek left → IsLeft entries seek other
left-as entries seek left other same is = subst (IsLeft entries seek) same is

-- the cells behind the first one are from it on, and itself is
all_from_first : (seek : Cell) (e : Cell × Option Value) (es : List (Cell × Option Value)) → AreInOrder (e ∷ es) → is_le (cell_cmp seek e.0) ≡ true → AllByRecursion (λ k. is_le (cell_cmp seek k) ≡ true) (keys_of (e ∷ es))
all_from_first seek e es ordered here = (
  here,
  keys_lead (λ k. is_less e.0 k ≡ true) (λ k. is_le (cell_cmp seek k) ≡ true)
      (λ k less. from_here seek k (not_less-trans seek e.0 k (upto_here seek e.0 here) (less-one_way e.0 k less)))
      (keys_of es) (behind_first e es ordered),
)

-- a cell is from itself on
from_itself : (cell : Cell) → is_le (cell_cmp cell cell) ≡ true
from_itself cell = from_here cell cell (less-not_itself cell)

-- entries in order end with those from a cell on
ends_with : (seek : Cell) (es : List (Cell × Option Value)) → AreInOrder es → (ahead : List (Cell × Option Value)) × (es ≡ ahead ++ entries_from (Some seek) es)
ends_with seek [] ordered = ([], refl)
ends_with seek (e ∷ es) ordered = elim (is_le (cell_cmp seek e.0)) as (λ b. is_le (cell_cmp seek e.0) ≡ b → (ahead : List (Cell × Option Value)) × (e ∷ es ≡ ahead ++ cond b (e ∷ entries_from (Some seek) es) (entries_from (Some seek) es))) [
  | true ↦ λ here. ([], ap (λ xs. e ∷ xs) (sym (kept_all (λ k. is_le (cell_cmp seek k)) es (all_from_first seek e es ordered here).1)))
  | false ↦ λ _. (let rest = ends_with seek es (order_tail e es ordered) in (e ∷ rest.0, ap (λ xs. e ∷ xs) rest.1))
] refl

-- of entries in order those from one's cell on are that one and what is behind it
from_head : (ahead : List (Cell × Option Value)) (e : Cell × Option Value) (es : List (Cell × Option Value)) → AreInOrder (ahead ++ e ∷ es) → entries_from (Some e.0) (ahead ++ e ∷ es) ≡ e ∷ es
from_head [] e es ordered = kept_all (λ k. is_le (cell_cmp e.0 k)) (e ∷ es) (all_from_first e.0 e es ordered (from_itself e.0))
from_head (d ∷ ds) e es ordered =
    ap (λ b. cond b (d ∷ entries_from (Some e.0) (ds ++ e ∷ es)) (entries_from (Some e.0) (ds ++ e ∷ es)))
    (not_from_here e.0 d.0 (all_second (λ k. is_less d.0 k ≡ true) ds (e ∷ es) (behind_first d (ds ++ e ∷ es) ordered)).0)
    ∙ from_head ds e es (order_tail d (ds ++ e ∷ es) ordered)

-- so is what is left
pub left-from : (entries : List (Cell × Option Value)) (seek : Cell) (e : Cell × Option Value) (es : List (Cell × Option Value)) → AreInOrder entries → IsLeft entries seek (e ∷ es) → entries_from (Some e.0) entries ≡ e ∷ es
left-from entries seek e es ordered left =
    let before = ends_with seek entries ordered in
    let all : entries ≡ (before.0 ++ left.ahead) ++ e ∷ es = before.1 ∙ ap (λ xs. before.0 ++ xs) left.is ∙ sym (append_assoc before.0 left.ahead (e ∷ es)) in
    ap (entries_from (Some e.0)) all ∙ from_head (before.0 ++ left.ahead) e es (subst (λ xs. AreInOrder xs) all ordered)

-- ---- beside the areas
-- each entry that passes the test lies in the areas
abbrev pub LiesWhere : List Area → (Cell × Option Value → Bool) → Type 0
LiesWhere areas p = (e : Cell × Option Value) → p e ≡ true → lies_in areas e.0 ≡ true

-- what stands before a cell stands before the next place
before-next : (areas : List Area) (cell : Cell) (next : Option Cell) → IsNext areas cell next → (q : Cell) → is_less q cell ≡ true → is_before next q ≡ true
before-next areas cell None is q less = refl
before-next areas cell (Some n) is q less = less-upto q cell n less (less-one_way cell n is.0)

-- a cell that lies in the areas isn't one that doesn't
other_cell : (areas : List Area) (cell q : Cell) → lies_in areas cell ≡ false → lies_in areas q ≡ true → same_cell cell q ≡ false
other_cell areas cell q beside lies = elim (same_cell cell q) as (λ b. same_cell cell q ≡ b → b ≡ false) [
  | true ↦ λ same. both_cannot (lies_in areas q) lies (subst (λ c. lies_in areas c ≡ false) (same_cell_is cell q same) beside) true false
  | false ↦ λ _. refl
] refl

-- beside the areas, before the next place stands of them what stands before the cell
next-alike : (areas : List Area) (cell : Cell) (next : Option Cell) → IsNext areas cell next → lies_in areas cell ≡ false → (q : Cell) → lies_in areas q ≡ true → is_before next q ≡ is_less q cell
next-alike areas cell next is beside q lies = elim (is_less q cell) as (λ b. is_less q cell ≡ b → is_before next q ≡ b) [
  | true ↦ λ less. before-next areas cell next is q less
  | false ↦ λ upto. before-later areas cell next is q lies (apart-less cell q (other_cell areas cell q beside lies) upto)
] refl

-- tests that agree where a third one passes agree with it
agree_with : (a b p : Bool) → (p ≡ true → a ≡ b) → (a && p) ≡ (b && p)
agree_with a b true agree = ap (λ x. x && true) (agree refl)
agree_with true true false agree = refl
agree_with true false false agree = refl
agree_with false true false agree = refl
agree_with false false false agree = refl

-- where tests of cells agree on what lies in the areas, they leave the same of what lies there
left_alike : (areas : List Area) (p : Cell × Option Value → Bool) → LiesWhere areas p → (a b : Cell → Bool) → ((q : Cell) → lies_in areas q ≡ true → a q ≡ b q) → (es : List (Cell × Option Value))
    → filter p (filter (λ e. a e.0) es) ≡ filter p (filter (λ e. b e.0) es)
left_alike areas p lies a b agree es =
    kept_twice p (λ e. a e.0) es
    ∙ kept_alike (λ e. a e.0 && p e) (λ e. b e.0 && p e) (λ e. agree_with (a e.0) (b e.0) (p e) (λ passes. agree e.0 (lies e passes))) es
    ∙ sym (kept_twice p (λ e. b e.0) es)

-- where the first of what is left lies beside the areas, the walk goes on at the next cell of the areas
pub left-jump : (areas : List Area) (p : Cell × Option Value → Bool) → LiesWhere areas p → (entries : List (Cell × Option Value)) (seek : Cell) (e : Cell × Option Value) (es : List (Cell × Option Value)) (next : Option Cell)
    → AreInOrder entries → IsLeft entries seek (e ∷ es) → IsNext areas e.0 next → lies_in areas e.0 ≡ false → filter p (entries_from next entries) ≡ filter p (e ∷ es)
left-jump areas p lies entries seek e es next ordered left is beside =
    ap (filter p) (from_place next entries)
    ∙ left_alike areas p lies (λ q. not (is_before next q)) (λ q. not (is_less q e.0)) (λ q h. ap not (next-alike areas e.0 next is beside q h)) entries
    ∙ ap (filter p) (sym (from_place (Some e.0) entries) ∙ left-from entries seek e es ordered left)

-- where a cell isn't less than another, that one stands before what is greater than the cell
upto-before : (areas : List Area) (cell : Cell) (next : Option Cell) → IsNext areas cell next → (q : Cell) → is_less cell q ≡ false → is_before next q ≡ true
upto-before areas cell None is q upto = refl
upto-before areas cell (Some n) is q upto = elim (is_less q n) as (λ b. is_less q n ≡ b → b ≡ true) [
  | true ↦ λ _. refl
  | false ↦ λ ahead. both_cannot (is_less cell q) (less-upto cell n q is.0 ahead) upto false true
] refl

-- what doesn't stand before the first place is what stands behind the cell that was given
first-alike : (areas : List Area) (after first : Option Cell) → IsFirstBehind areas after first → (q : Cell) → lies_in areas q ≡ true → not (is_before first q) ≡ is_behind after q
first-alike areas None first is q lies = ap not (first-before areas first is q lies)
first-alike areas (Some cell) first is q lies = elim (is_less cell q) as (λ b. is_less cell q ≡ b → not (is_before first q) ≡ b) [
  | true ↦ λ less. ap not (before-later areas cell first is q lies less)
  | false ↦ λ upto. ap not (upto-before areas cell first is q upto)
] refl

-- from the first cell of the areas on there is all that lies in them
pub left-start : (areas : List Area) (p : Cell × Option Value → Bool) → LiesWhere areas p → (entries : List (Cell × Option Value)) (after first : Option Cell) → IsFirstBehind areas after first
    → filter p (entries_from first entries) ≡ filter p (filter (λ e. is_behind after e.0) entries)
left-start areas p lies entries after first is =
    ap (filter p) (from_place first entries)
    ∙ left_alike areas p lies (λ q. not (is_before first q)) (is_behind after) (first-alike areas after first is) entries

-- ---- how many steps are ahead
-- what isn't before a later cell isn't before a lesser one
later_too : (cell n k : Cell) → is_less cell n ≡ true → (is_le (cell_cmp cell k) && is_le (cell_cmp n k)) ≡ is_le (cell_cmp n k)
later_too cell n k less = elim (is_le (cell_cmp n k)) as (λ b. is_le (cell_cmp n k) ≡ b → (is_le (cell_cmp cell k) && b) ≡ b) [
  | true ↦ λ ahead. ap (λ b. b && true) (from_here cell k (less-one_way cell k (less-upto cell n k less (upto_here n k ahead))))
  | false ↦ λ _. last_false (is_le (cell_cmp cell k))
] refl
  where
    last_false : (b : Bool) → (b && false) ≡ false
    last_false true = refl
    last_false false = refl

-- from a later cell on there is what is from there on of what is left
later_left : (entries : List (Cell × Option Value)) (seek n : Cell) (e : Cell × Option Value) (es : List (Cell × Option Value)) → AreInOrder entries → IsLeft entries seek (e ∷ es) → is_less e.0 n ≡ true
    → entries_from (Some n) entries ≡ entries_from (Some n) es
later_left entries seek n e es ordered left less =
    sym (kept_alike (λ d. is_le (cell_cmp e.0 d.0) && is_le (cell_cmp n d.0)) (λ d. is_le (cell_cmp n d.0)) (λ d. later_too e.0 n d.0 less) entries)
    ∙ sym (kept_twice (λ d. is_le (cell_cmp n d.0)) (λ d. is_le (cell_cmp e.0 d.0)) entries)
    ∙ ap (entries_from (Some n)) (left-from entries seek e es ordered left)
    ∙ ap (λ b. cond b (e ∷ entries_from (Some n) es) (entries_from (Some n) es)) (not_from_here n e.0 less)

-- each jump leaves fewer steps ahead
pub steps-fall : (areas : List Area) (entries : List (Cell × Option Value)) (seek : Cell) (e : Cell × Option Value) (es : List (Cell × Option Value)) (next : Option Cell)
    → AreInOrder entries → IsLeft entries seek (e ∷ es) → IsNext areas e.0 next → steps_ahead entries next < steps_ahead entries (Some seek)
steps-fall areas entries seek e es None ordered left is = omega arith
steps-fall areas entries seek e es (Some n) ordered left is =
    let all : length (entries_from (Some seek) entries) ≡ length left.ahead + length (e ∷ es) = ap length left.is ∙ length-append left.ahead (e ∷ es) in
    let some : length (entries_from (Some n) entries) ≡ length (entries_from (Some n) es) = ap length (later_left entries seek n e es ordered left is.0) in
    omega (arith, all, some, kept_fewer (λ d. is_le (cell_cmp n d.0)) es)

-- so does the end
pub steps-end : (entries : List (Cell × Option Value)) (seek : Cell) → steps_ahead entries None < steps_ahead entries (Some seek)
steps-end entries seek = omega arith
