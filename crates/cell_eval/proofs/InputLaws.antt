-- Entries in the order of cells, read cell by cell.
use Rattle.std.proofs.Common.{◌≡◌, ℕ, zero, suc, ◌-◌, ◌<◌, ◌≤◌, Bool, true, false, cond, List, [], ◌∷◌, map, length, take, drop, get_or, All, Some, refl, sym, ap, ◌∙◌, arith, subst, unwrap_or}
use Rattle.std.proofs.lemmas.List.{take_all, length-drop}
use Rattle.std.proofs.lemmas.List.Elements.{All-head, All-tail}
use Rattle.std.proofs.lemmas.Map.Keys.{sorted_head}
use Rattle.std.specs.List.{AllByRecursion, AllPairs}
use Rattle.std.specs.List.Sorted.{IsStrictlySortedBy, IsPartitionedBy, IsPartitionPoint}
use Rattle.std.specs.Map.{keys_of, lookup}
use Rattle.std.specs.Ordering.{is_lt, is_eq, ordering_reverse}
use Rattle.std.specs.declared.cmp.Ordering.{Ordering}
use Rattle.std.specs.declared.cmp.Ordering.TheVariants.{Less, Equal, Greater}
use Rattle.cell_refs.specs.declared.grid.Cell.{Cell}
use Rattle.cell_refs.specs.Cell.{cell_cmp, same_cell, cells_total}
use Rattle.cell_values.specs.declared.values.Value.{Value}
use Rattle.cell_values.specs.declared.values.Value.TheVariants as values
use Rattle.cell_eval.specs.Inputs.{from_cell, head_value}
use Rattle.cell_eval.specs.Jobs.{input_of}

-- a part of a list up to its end is all that follows
pub rest_of : {X : Type 0} (i : ℕ) (xs : List X) → take (length xs - i) (drop i xs) ≡ drop i xs
rest_of i xs = let count = length-drop i xs in take_all (length xs - i) (drop i xs) (omega arith)

-- the entries behind the first are in order, too
sorted_tail : (k : Cell) (ks : List Cell) → IsStrictlySortedBy cell_cmp (k ∷ ks) → IsStrictlySortedBy cell_cmp ks
unfolding IsStrictlySortedBy
sorted_tail k ks h = h.1

-- so are those from a place on
pub sorted_drop : (i : ℕ) (es : List (Cell × Value)) → IsStrictlySortedBy cell_cmp (keys_of es) → IsStrictlySortedBy cell_cmp (keys_of (drop i es))
sorted_drop zero es h = h
sorted_drop (suc i) [] h = h
sorted_drop (suc i) (e ∷ es) h = sorted_drop i es (sorted_tail e.0 (keys_of es) h)

-- ---- the look-up of a cell among entries from that cell on
-- a cell below another isn't the same, from either side
less_not_same : (o : Ordering) → o ≡ Less → is_eq o ≡ false
less_not_same Less e = refl
less_not_same Equal e = absurd (cc)
less_not_same Greater e = absurd (cc)

reverse_less : (o : Ordering) → o ≡ Greater → ordering_reverse o ≡ Less
reverse_less Less e = absurd (cc)
reverse_less Equal e = absurd (cc)
reverse_less Greater e = refl

pub not_below : (o : Ordering) → is_lt o ≡ true → o ≡ Less
not_below Less e = refl
not_below Equal e = absurd (cc)
not_below Greater e = absurd (cc)

reversed_below : (o : Ordering) → o ≡ Less → is_eq (ordering_reverse o) ≡ false
reversed_below Less e = refl
reversed_below Equal e = absurd (cc)
reversed_below Greater e = absurd (cc)

-- a cell above another isn't the same
above_not_same : (a b : Cell) → cell_cmp a b ≡ Less → same_cell b a ≡ false
above_not_same a b h = ap is_eq (cells_total.antisymm b a) ∙ reversed_below (cell_cmp a b) h

-- no entry above a cell is the cell's
none_above : (es : List (Cell × Value)) (c : Cell) → AllByRecursion (λ k. cell_cmp c k ≡ Less) (keys_of es) → input_of es c ≡ values.Blank
none_above [] c h = refl
none_above (e ∷ es) c h = ap (λ b. unwrap_or (cond b (Some e.1) (lookup (same_cell c) es)) values.Blank) (less_not_same _ h.0) ∙ none_above es c h.1

-- ---- the entries from a cell on
-- the first entry isn't below the cell
pub below_later : (es : List (Cell × Value)) (c : Cell) (e : Cell) → cell_cmp c e ≡ Less → AllByRecursion (λ k. cell_cmp e k ≡ Less) (keys_of es) → AllByRecursion (λ k. cell_cmp c k ≡ Less) (keys_of es)
below_later [] c e h all = tt
below_later (x ∷ es) c e h all = (cells_total.trans c e x.0 h all.0, below_later es c e h all.1)

-- the order of two cells, seen from the other
turned : (a b : Cell) → cell_cmp a b ≡ Greater → cell_cmp b a ≡ Less
turned a b h = cells_total.antisymm b a ∙ reverse_less (cell_cmp a b) h

equal_turned : (a b : Cell) → cell_cmp a b ≡ Equal → same_cell b a ≡ true
equal_turned a b h = ap is_eq (cells_total.antisymm b a ∙ ap ordering_reverse h)

-- where the first entry isn't below the cell, the cell's value is the first's or Blank
found_first : (o : Ordering) (e : Cell × Value) (es : List (Cell × Value)) (c : Cell) → cell_cmp e.0 c ≡ o → is_lt o ≡ false → IsStrictlySortedBy cell_cmp (keys_of (e ∷ es)) → head_value (e ∷ es) c ≡ input_of (e ∷ es) c
found_first Less e es c is h ordered = absurd (cc)
found_first Equal e es c is h ordered =
    let same = equal_turned e.0 c is in
    ap (λ b. cond b e.1 values.Blank) same ∙ sym (ap (λ b. unwrap_or (cond b (Some e.1) (lookup (same_cell c) es)) values.Blank) same)
found_first Greater e es c is h ordered =
    let below = turned e.0 c is in
    let other = less_not_same (cell_cmp c e.0) below in
    ap (λ b. cond b e.1 values.Blank) other
    ∙ sym (none_above es c (below_later es c e.0 below (sorted_head cell_cmp e.0 (keys_of es) ordered)))
    ∙ sym (ap (λ b. unwrap_or (cond b (Some e.1) (lookup (same_cell c) es)) values.Blank) other)

-- an entry below the cell isn't the cell's
passed_by : (e : Cell × Value) (es : List (Cell × Value)) (c : Cell) → cell_cmp e.0 c ≡ Less → input_of (e ∷ es) c ≡ input_of es c
passed_by e es c h = ap (λ b. unwrap_or (cond b (Some e.1) (lookup (same_cell c) es)) values.Blank) (above_not_same e.0 c h)

-- the value of a cell is found at the front of the entries from the cell on
found_step : (b : Bool) (e : Cell × Value) (es : List (Cell × Value)) (c : Cell) → is_lt (cell_cmp e.0 c) ≡ b → IsStrictlySortedBy cell_cmp (keys_of (e ∷ es)) → head_value (from_cell es c) c ≡ input_of es c → head_value (cond b (from_cell es c) (e ∷ es)) c ≡ input_of (e ∷ es) c
found_step true e es c is ordered others = others ∙ sym (passed_by e es c (not_below _ is))
found_step false e es c is ordered others = found_first (cell_cmp e.0 c) e es c refl is ordered

pub found : (es : List (Cell × Value)) (c : Cell) → IsStrictlySortedBy cell_cmp (keys_of es) → head_value (from_cell es c) c ≡ input_of es c
found [] c ordered = refl
found (e ∷ es) c ordered = found_step (is_lt (cell_cmp e.0 c)) e es c refl ordered (found es c (sorted_tail e.0 (keys_of es) ordered))

-- the entries from a cell on are in order, too
from_ordered_step : (b : Bool) (e : Cell × Value) (es : List (Cell × Value)) (c : Cell) → IsStrictlySortedBy cell_cmp (keys_of (e ∷ es)) → IsStrictlySortedBy cell_cmp (keys_of (from_cell es c)) → IsStrictlySortedBy cell_cmp (keys_of (cond b (from_cell es c) (e ∷ es)))
from_ordered_step true e es c whole others = others
from_ordered_step false e es c whole others = whole

pub from_ordered : (es : List (Cell × Value)) (c : Cell) → IsStrictlySortedBy cell_cmp (keys_of es) → IsStrictlySortedBy cell_cmp (keys_of (from_cell es c))
from_ordered [] c h = h
from_ordered (e ∷ es) c h = from_ordered_step (is_lt (cell_cmp e.0 c)) e es c h (from_ordered es c (sorted_tail e.0 (keys_of es) h))

-- a later cell is found among the entries from an earlier one on
stays_step : (b : Bool) (e : Cell × Value) (es : List (Cell × Value)) (c d : Cell) → is_lt (cell_cmp e.0 c) ≡ b → cell_cmp c d ≡ Less → input_of (from_cell es c) d ≡ input_of es d → input_of (cond b (from_cell es c) (e ∷ es)) d ≡ input_of (e ∷ es) d
stays_step true e es c d is later others = others ∙ sym (passed_by e es d (cells_total.trans e.0 c d (not_below _ is) later))
stays_step false e es c d is later others = refl

pub stays : (es : List (Cell × Value)) (c d : Cell) → cell_cmp c d ≡ Less → input_of (from_cell es c) d ≡ input_of es d
stays [] c d later = refl
stays (e ∷ es) c d later = stays_step (is_lt (cell_cmp e.0 c)) e es c d refl later (stays es c d later)

-- ---- the cells of an area, one after another
-- each cell is below those behind it
abbrev pub Ascend : List Cell → Type 0
Ascend [] = Unit {0}
Ascend (c ∷ cs) = All (λ d. cell_cmp c d ≡ Less) cs × Ascend cs

pub ascend_from_pairs : (cs : List Cell) → AllPairs (λ a b. cell_cmp a b ≡ Less) cs → Ascend cs
ascend_from_pairs [] h = tt
ascend_from_pairs (c ∷ cs) h = ((λ k d lt. h 0 (suc k) d (omega arith) (omega arith)), ascend_from_pairs cs (λ i j d lt within. h (suc i) (suc j) d (omega arith) (omega arith)))

-- the values of cells, found one after another
abbrev pub values_along : List (Cell × Value) → List Cell → List Value
values_along es [] = []
values_along es (c ∷ cs) = head_value (from_cell es c) c ∷ values_along (from_cell es c) cs

-- later cells are found among the entries from an earlier one on
stays_all : (es : List (Cell × Value)) (c : Cell) (cs : List Cell) → All (λ d. cell_cmp c d ≡ Less) cs → map (input_of (from_cell es c)) cs ≡ map (input_of es) cs
stays_all es c [] h = refl
stays_all es c (d ∷ cs) h =
    let first = stays es c d (All-head (λ x. cell_cmp c x ≡ Less) d cs h) in
    let others = stays_all es c cs (All-tail (λ x. cell_cmp c x ≡ Less) d cs h) in
    cc

-- they are the values of the cells
pub along_cells : (es : List (Cell × Value)) (cs : List Cell) → IsStrictlySortedBy cell_cmp (keys_of es) → Ascend cs → values_along es cs ≡ map (input_of es) cs
along_cells es [] ordered up = refl
along_cells es (c ∷ cs) ordered up =
    let first = found es c ordered in
    let others = along_cells (from_cell es c) cs (from_ordered es c ordered) up.1 ∙ stays_all es c cs up.0 in
    cc

-- ---- the search for the entries from a cell on
-- each entry behind the first is above what the first is above
key_at : (es : List (Cell × Value)) (c : Cell) (j : ℕ) (d : Cell × Value) → j < length es → AllByRecursion (λ k. cell_cmp c k ≡ Less) (keys_of es) → cell_cmp c (get_or es j d).0 ≡ Less
key_at [] c j d lt h = absurd (omega arith)
key_at (e ∷ es) c zero d lt h = h.0
key_at (e ∷ es) c (suc j) d lt h = key_at es c j d (omega arith) h.1

below_is : (o : Ordering) → o ≡ Less → is_lt o ≡ true
below_is o h = ap is_lt h

-- no entry below a cell comes behind one that isn't
pub entries_parted : (es : List (Cell × Value)) (c : Cell) → IsStrictlySortedBy cell_cmp (keys_of es) → IsPartitionedBy (λ e. is_lt (cell_cmp e.0 c)) es
entries_parted [] c ordered i j d le lt h = absurd (omega arith)
entries_parted (e ∷ es) c ordered zero zero d le lt h = h
entries_parted (e ∷ es) c ordered zero (suc j) d le lt h =
    below_is _ (cells_total.trans e.0 (get_or es j d).0 c (key_at es e.0 j d (omega arith) (sorted_head cell_cmp e.0 (keys_of es) ordered)) (not_below _ h))
entries_parted (e ∷ es) c ordered (suc i) zero d le lt h = absurd (omega arith)
entries_parted (e ∷ es) c ordered (suc i) (suc j) d le lt h = entries_parted es c (sorted_tail e.0 (keys_of es) ordered) i j d (omega arith) (omega arith) h

-- behind those below a cell are those from the cell on
pub from_point : (es : List (Cell × Value)) (c : Cell) (i : ℕ) → i ≤ length es → IsPartitionPoint (λ e. is_lt (cell_cmp e.0 c) ≡ true) (λ e. is_lt (cell_cmp e.0 c) ≡ false) es i → drop i es ≡ from_cell es c
from_point [] c zero within point = refl
from_point [] c (suc i) within point = refl
from_point (e ∷ es) c zero within point = sym (ap (λ b. cond b (from_cell es c) (e ∷ es)) (point.1 0 e (omega arith) (omega arith)))
from_point (e ∷ es) c (suc i) within point =
    from_point es c i (omega arith) ((λ k d low high. point.0 (suc k) d (omega arith) (omega arith)), (λ k d low high. point.1 (suc k) d (omega arith) (omega arith)))
    ∙ sym (ap (λ b. cond b (from_cell es c) (e ∷ es)) (point.0 0 e (omega arith) (omega arith)))

-- ---- entries that are found in order
-- no entry, and one alone
pub no_entries : (es : List (Cell × Value)) → es ≡ [] → IsStrictlySortedBy cell_cmp (keys_of es)
unfolding IsStrictlySortedBy
no_entries es none = subst (λ (xs : List (Cell × Value)). IsStrictlySortedBy cell_cmp (keys_of xs)) (sym none) tt
