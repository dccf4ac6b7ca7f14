-- The readers that the index finds are those of the table, after few steps.
use Rattle.std.proofs.Common.{◌≡◌, ℕ, ◌+◌, ◌*◌, ◌^◌, ◌≤◌, Bool, true, false, cond, ◌&&◌, ◌||◌, List, [], ◌∷◌, ◌++◌, length, refl, ap, sym, ◌∙◌, subst, inl, inr, arith, eqb, flat_map}
use Rattle.std.specs.Prelude.{map, Result, Ok, Err, IfOk}
use Rattle.std.specs.declared.cmp.Ordering.{Ordering}
use Rattle.std.specs.declared.cmp.Ordering.TheVariants.{Less, Equal, Greater}
use Rattle.std.specs.Ordering.{is_eq, ordering_reverse}
use Rattle.std.specs.Option.{unwrap_or}
use Rattle.std.specs.Cmp.{both_ways}
use Rattle.std.specs.List.{AllByRecursion, list_any, filter, count_by}
use Rattle.std.specs.List.Sorted.{IsStrictlySortedBy}
use Rattle.std.specs.Map.{keys_of, lookup}
use Rattle.std.proofs.lemmas.Bool.{or_cases, or_left, or_right, eq-eqb}
use Rattle.std.proofs.lemmas.Bool.Decides.{leb_tells}
use Rattle.std.proofs.lemmas.List.{map-append}
use Rattle.std.proofs.lemmas.List.Folds.{list_any-append}
use Rattle.std.proofs.lemmas.List.Sums.{length-filter}
use Rattle.std.proofs.lemmas.List.Kept.{IsStrictlySortedBy-filter}
use Rattle.std.proofs.lemmas.Map.Keys.{IsDistinct-from_sorted}
use Rattle.std.proofs.lemmas.Map.Made.{length-le_from_is_member}
use Rattle.std.proofs.lemmas.Map.Views.{any-filter_same}
use Rattle.std.proofs.Math.Nat.{mul-le-mul_right, mul-le-mul, pow-le-pow_right}
use Rattle.cell_refs.specs.declared.areas.Area.{Area}
use Rattle.cell_refs.specs.declared.grid.Cell.{Cell}
use Rattle.cell_refs.specs.Area.{area_has, lies_in}
use Rattle.cell_refs.specs.Cell.{cell_cmp, is_among, same_cell}
use Rattle.cell_refs.proofs.PublicLaws.{cells_total, same_cell_is, same_cells}
use Rattle.area_index.specs.declared.pairs.Pair.{Pair}
use Rattle.area_index.specs.Pairs.{pair_cmp, same_pair}
use Rattle.area_index.specs.Walk.{rows_have}
use Rattle.area_index.specs.Forests.{Forest, names, pair_at, pairs_on, levels_on, AreReadersAt, IsBoundedWalk}
use Rattle.area_index.proofs.PublicLaws.{same_pair_is, same_pairs}
use Rattle.dep_table.specs.Table.{areas_at, readers_of}
use Rattle.dep_table.specs.Indexed.{IsIndexed}
use Rattle.dep_table.specs.Steps.{IsFewSteps, areas_on, has_row}
use Rattle.dep_table.proofs.Readers.{readers_of-among}

-- ---- which readers

names_lies : (reader : Cell) (areas : List Area) (area : Area) (cell : Cell) → names reader areas (pair_at reader area) ≡ true → area_has area cell ≡ true → lies_in areas cell ≡ true
names_lies reader [] area cell h k = h
names_lies reader (a ∷ areas) area cell h k = elim (or_cases (same_pair (pair_at reader area) (pair_at reader a)) (names reader areas (pair_at reader area)) h) as (λ _. lies_in (a ∷ areas) cell ≡ true) [
  | inl same ↦ or_left _ _ (subst (λ q. area_has q.area cell ≡ true) (same_pair_is (pair_at reader area) (pair_at reader a) same) k)
  | inr more ↦ or_right _ _ (names_lies reader areas area cell more k)
]

lies_names : (reader : Cell) (areas : List Area) (cell : Cell) → lies_in areas cell ≡ true → (area : Area) × (names reader areas (pair_at reader area) ≡ true) × (area_has area cell ≡ true)
lies_names reader [] cell h = cc
lies_names reader (a ∷ areas) cell h = elim (or_cases (area_has a cell) (lies_in areas cell) h) as (λ _. (area : Area) × (names reader (a ∷ areas) (pair_at reader area) ≡ true) × (area_has area cell ≡ true)) [
  | inl here ↦ (a, or_left _ _ (same_pairs.refl (pair_at reader a)), here)
  | inr more ↦ let f = lies_names reader areas cell more in (f.0, or_right _ _ f.1, f.2)
]

found_among : (index : Forest) (table : List (Cell × List Area)) (cell : Cell) (readers : List Cell) → IsIndexed index table → AreReadersAt index cell readers → (r : Cell) → is_among readers r ≡ is_among (readers_of table cell) r
found_among index table cell readers i are r =
    both_ways (is_among readers r) (lies_in (areas_at table r) cell)
    (λ h. let f = are.each r h in names_lies r (areas_at table r) f.0 cell (sym (i.pairs (pair_at r f.0)) ∙ f.1) f.2)
    (λ h. let f = lies_names r (areas_at table r) cell h in are.all r f.0 (i.pairs (pair_at r f.0) ∙ f.1) f.2)
    ∙ sym (readers_of-among table i.ordered cell r)

-- ---- lists in order with the same cells are one

all_kept : (P : Cell → Type 0) (test : Cell × List Area → Bool) (es : List (Cell × List Area)) → AllByRecursion P (keys_of es) → AllByRecursion P (keys_of (filter test es))
all_kept P test [] a = tt
all_kept P test (e ∷ es) a = elim (test e) as (λ w. AllByRecursion P (keys_of (cond w (e ∷ filter test es) (filter test es)))) [ true ↦ (a.0, all_kept P test es a.1) | false ↦ all_kept P test es a.1 ]

keys_kept : (test : Cell × List Area → Bool) (es : List (Cell × List Area)) → IsStrictlySortedBy cell_cmp (keys_of es) → IsStrictlySortedBy cell_cmp (keys_of (filter test es))
unfolding IsStrictlySortedBy
keys_kept test [] s = tt
keys_kept test (e ∷ es) s = elim (test e) as (λ w. IsStrictlySortedBy cell_cmp (keys_of (cond w (e ∷ filter test es) (filter test es)))) [ true ↦ (all_kept (λ y. cell_cmp e.0 y ≡ Less) test es s.0, keys_kept test es s.1) | false ↦ keys_kept test es s.1 ]

is_equal : (o : Ordering) → is_eq o ≡ true → o ≡ Equal
is_equal Less h = cc
is_equal Equal h = refl
is_equal Greater h = cc

member_above : (x q : Cell) (xs : List Cell) → AllByRecursion (λ y. cell_cmp x y ≡ Less) xs → is_among xs q ≡ true → cell_cmp x q ≡ Less
member_above x q [] a h = cc
member_above x q (y ∷ xs) a h = elim (or_cases (same_cell q y) (is_among xs q) h) as (λ _. cell_cmp x q ≡ Less) [
  | inl same ↦ subst (λ z. cell_cmp x z ≡ Less) (sym (same_cell_is q y same)) a.0
  | inr more ↦ member_above x q xs a.1 more
]

not_both : (x y : Cell) (P : Type 0) → cell_cmp x y ≡ Less → cell_cmp y x ≡ Less → P
not_both x y P a b = let e : Less ≡ Greater = sym a ∙ cells_total.antisymm x y ∙ ap ordering_reverse b in absurd (cc)

not_itself : (x q : Cell) → cell_cmp x q ≡ Less → same_cell q x ≡ false
not_itself x q a = ap is_eq (cells_total.antisymm q x ∙ ap ordering_reverse a)

head_same : (x y : Cell) (xs ys : List Cell) → AllByRecursion (λ z. cell_cmp x z ≡ Less) xs → AllByRecursion (λ z. cell_cmp y z ≡ Less) ys → is_among (y ∷ ys) x ≡ true → is_among (x ∷ xs) y ≡ true → x ≡ y
head_same x y xs ys a b h k = elim (or_cases (same_cell x y) (is_among ys x) h) as (λ _. x ≡ y) [
  | inl same ↦ same_cell_is x y same
  | inr more ↦ elim (or_cases (same_cell y x) (is_among xs y) k) as (λ _. x ≡ y) [
    | inl same ↦ sym (same_cell_is y x same)
    | inr later ↦ not_both x y (x ≡ y) (member_above x y xs a later) (member_above y x ys b more)
  ]
]

tail_among : (x q : Cell) (xs ys : List Cell) → AllByRecursion (λ z. cell_cmp x z ≡ Less) xs → is_among (x ∷ xs) q ≡ is_among (x ∷ ys) q → is_among xs q ≡ true → is_among ys q ≡ true
tail_among x q xs ys a e h = elim (or_cases (same_cell q x) (is_among ys q) (sym e ∙ or_right (same_cell q x) _ h)) as (λ _. is_among ys q ≡ true) [
  | inl same ↦ let f : true ≡ false = sym same ∙ not_itself x q (member_above x q xs a h) in cc
  | inr more ↦ more
]

pub same_lists : (xs ys : List Cell) → IsStrictlySortedBy cell_cmp xs → IsStrictlySortedBy cell_cmp ys → ((q : Cell) → is_among xs q ≡ is_among ys q) → xs ≡ ys
unfolding IsStrictlySortedBy
same_lists [] [] s t e = refl
same_lists [] (y ∷ ys) s t e = let f : false ≡ true = e y ∙ or_left _ _ (same_cells.refl y) in cc
same_lists (x ∷ xs) [] s t e = let f : false ≡ true = sym (e x) ∙ or_left _ _ (same_cells.refl x) in cc
same_lists (x ∷ xs) (y ∷ ys) s t e =
    let one : x ≡ y = head_same x y xs ys s.0 t.0 (sym (e x) ∙ or_left _ _ (same_cells.refl x)) (e y ∙ or_left _ _ (same_cells.refl y)) in
    let above : AllByRecursion (λ z. cell_cmp x z ≡ Less) ys = subst (λ w. AllByRecursion (λ z. cell_cmp w z ≡ Less) ys) (sym one) t.0 in
    let same : (q : Cell) → is_among (x ∷ xs) q ≡ is_among (x ∷ ys) q = λ q. e q ∙ ap (λ w. is_among (w ∷ ys) q) (sym one) in
    ap (λ w. w ∷ xs) one ∙ ap (λ zs. y ∷ zs) (same_lists xs ys s.1 t.1 (λ q. both_ways (is_among xs q) (is_among ys q) (tail_among x q xs ys s.0 (same q)) (tail_among x q ys xs above (sym (same q)))))

-- the readers that the index finds are those of the table
pub readers-are : (index : Forest) (table : List (Cell × List Area)) (cell : Cell) (readers : List Cell) → IsIndexed index table → AreReadersAt index cell readers → readers ≡ readers_of table cell
readers-are index table cell readers i are = same_lists readers (readers_of table cell) are.sorted (keys_kept (λ e. lies_in e.1 cell) table i.ordered) (found_among index table cell readers i are)

-- ---- few steps

-- the pairs of the readers and their areas
abbrev table_pairs : List (Cell × List Area) → List Pair
table_pairs table = flat_map (λ e. map (pair_at e.0) e.1) table

names_any : (reader : Cell) (areas : List Area) (p : Pair) → names reader areas p ≡ list_any (same_pair p) (map (pair_at reader) areas)
names_any reader [] p = refl
names_any reader (a ∷ areas) p = ap (λ z. same_pair p (pair_at reader a) || z) (names_any reader areas p)

in_table : (table : List (Cell × List Area)) (p : Pair) → names p.reader (areas_at table p.reader) p ≡ true → list_any (same_pair p) (table_pairs table) ≡ true
in_table [] p h = h
in_table (e ∷ es) p h = list_any-append (same_pair p) (map (pair_at e.0) e.1) (table_pairs es) ∙ by (same_cell p.reader e.0) refl h (in_table es p) where
  by : (w : Bool) → same_cell p.reader e.0 ≡ w → names p.reader (unwrap_or (cond w (Rattle.std.proofs.Common.Some e.1) (lookup (same_cell p.reader) es)) []) p ≡ true → (names p.reader (areas_at es p.reader) p ≡ true → list_any (same_pair p) (table_pairs es) ≡ true) → (list_any (same_pair p) (map (pair_at e.0) e.1) || list_any (same_pair p) (table_pairs es)) ≡ true
  by true same k rest = or_left _ _ (sym (names_any e.0 e.1 p) ∙ subst (λ r. names r e.1 p ≡ true) (same_cell_is p.reader e.0 same) k)
  by false apart k rest = or_right _ _ (rest k)

map_back : (reader : Cell) (areas : List Area) → map (λ p. p.area) (map (pair_at reader) areas) ≡ areas
map_back reader [] = refl
map_back reader (a ∷ areas) = ap (λ z. a ∷ z) (map_back reader areas)

table_areas : (table : List (Cell × List Area)) → map (λ p. p.area) (table_pairs table) ≡ flat_map (λ e. e.1) table
table_areas [] = refl
table_areas (e ∷ es) = map-append (λ p. p.area) (map (pair_at e.0) e.1) (table_pairs es) ∙ ap (λ z. z ++ map (λ p. p.area) (table_pairs es)) (map_back e.0 e.1) ∙ ap (λ z. e.1 ++ z) (table_areas es)

map_filter : (t : Area → Bool) (ps : List Pair) → map (λ p. p.area) (filter (λ p. t p.area) ps) ≡ filter t (map (λ p. p.area) ps)
map_filter t [] = refl
map_filter t (p ∷ ps) = let ih = map_filter t ps in elim (t p.area) as (λ w. map (λ q. q.area) (cond w (p ∷ filter (λ q. t q.area) ps) (filter (λ q. t q.area) ps)) ≡ cond w (p.area ∷ filter t (map (λ q. q.area) ps)) (filter t (map (λ q. q.area) ps))) [ true ↦ ap (λ z. p.area ∷ z) ih | false ↦ ih ]

length_areas : (ps : List Pair) → length (map (λ p. p.area) ps) ≡ length ps
length_areas [] = refl
length_areas (p ∷ ps) = let ih = length_areas ps in omega arith

both_true : (a b : Bool) → (a && b) ≡ true → (a ≡ true) × (b ≡ true)
both_true true true h = (refl, refl)
both_true true false h = cc
both_true false b h = cc

both_are : (a b : Bool) → a ≡ true → b ≡ true → (a && b) ≡ true
both_are true b e f = f
both_are false b e f = e

-- whether a pair's area is on the sheet
abbrev on_sheet : ℕ → Pair → Bool
on_sheet sheet p = eqb p.area.sheet sheet

kept_by : (t : Pair → Bool) (ps : List Pair) (q : Pair) → list_any (same_pair q) (filter t ps) ≡ (t q && list_any (same_pair q) ps)
kept_by t ps q = any-filter_same (same_pair q) t (t q) (λ k g. ap t (sym (same_pair_is q k g))) ps

pairs_among : (index : Forest) (table : List (Cell × List Area)) (cell : Cell) (before after : ℕ) → IsIndexed index table → IsBoundedWalk index cell before after → (q : Pair) → list_any (same_pair q) (pairs_on index cell.sheet) ≡ true → list_any (same_pair q) (filter (on_sheet cell.sheet) (table_pairs table)) ≡ true
pairs_among index table cell before after i w q h =
    let f = w.own q h in
    let has : names q.reader (areas_at table q.reader) q ≡ true = sym (i.pairs q) ∙ f.0 in
    kept_by (on_sheet cell.sheet) (table_pairs table) q ∙ rw (eq-eqb q.area.sheet cell.sheet f.1) (in_table table q has)

areas-are : (table : List (Cell × List Area)) (sheet : ℕ) → map (λ p. p.area) (filter (on_sheet sheet) (table_pairs table)) ≡ areas_on table sheet
areas-are table sheet = map_filter (λ a. eqb a.sheet sheet) (table_pairs table) ∙ ap (filter (λ a. eqb a.sheet sheet)) (table_areas table)

pub few-steps : (index : Forest) (table : List (Cell × List Area)) (cell : Cell) (before after : ℕ) → IsIndexed index table → IsBoundedWalk index cell before after → IsFewSteps table cell before after
few-steps index table cell before after i w =
    let xs = pairs_on index cell.sheet in
    let ys = filter (on_sheet cell.sheet) (table_pairs table) in
    let among = pairs_among index table cell before after i w in
    let n1 : length xs ≤ length ys = length-le_from_is_member same_pairs xs ys (IsDistinct-from_sorted pair_cmp xs w.ordered) among in
    let n2 : length ys ≡ length (areas_on table cell.sheet) = sym (length_areas ys) ∙ ap length (areas-are table cell.sheet) in
    let n : length xs ≤ length (areas_on table cell.sheet) = omega arith in
    let k1 : length (filter (rows_have cell.row) xs) ≤ length (filter (rows_have cell.row) ys) = length-le_from_is_member same_pairs (filter (rows_have cell.row) xs) (filter (rows_have cell.row) ys) (IsDistinct-from_sorted pair_cmp (filter (rows_have cell.row) xs) (IsStrictlySortedBy-filter pair_cmp (rows_have cell.row) xs w.ordered)) (λ q h. let b : (rows_have cell.row q ≡ true) × (list_any (same_pair q) (pairs_on index cell.sheet) ≡ true) = both_true (rows_have cell.row q) (list_any (same_pair q) (pairs_on index cell.sheet)) (sym (kept_by (rows_have cell.row) (pairs_on index cell.sheet) q) ∙ h) in kept_by (rows_have cell.row) (filter (on_sheet cell.sheet) (table_pairs table)) q ∙ both_are (rows_have cell.row q) _ b.0 (among q b.1)) in
    let k2 : length (filter (rows_have cell.row) ys) ≡ count_by (has_row cell.row) (areas_on table cell.sheet) = sym (length_areas (filter (rows_have cell.row) ys)) ∙ ap length (map_filter (has_row cell.row) ys) ∙ ap (λ as'. length (filter (has_row cell.row) as')) (areas-are table cell.sheet) ∙ length-filter (has_row cell.row) (areas_on table cell.sheet) in
    let k3 : length (filter (rows_have cell.row) xs) ≡ count_by (rows_have cell.row) xs = length-filter (rows_have cell.row) xs in
    let k : count_by (rows_have cell.row) xs + 1 ≤ count_by (has_row cell.row) (areas_on table cell.sheet) + 1 = omega arith in
    let s = w.steps in
    let l = w.levels in
    let m = mul-le-mul_right (levels_on index cell.sheet) k in
    let o : length xs + 1 ≤ length (areas_on table cell.sheet) + 1 = omega arith in
    let p = mul-le-mul o o in
    (levels_on index cell.sheet, omega arith, omega arith)

-- what a call gives where it goes through
pub if_ok : {A E : Type 0} (P Q : A → Type 0) → ((a : A) → P a → Q a) → (r : Result A E) → IfOk r P → IfOk r Q
if_ok P Q f (Ok a) h = f a h
if_ok P Q f (Err e) h = h

levels_below : (levels n : ℕ) → n ≤ 10000 → 2 ^ levels ≤ (n + 1) * (n + 1) → levels ≤ 26
levels_below levels n few h =
    let square : (n + 1) * (n + 1) ≤ 10001 * 10001 = let k : n + 1 ≤ 10001 = omega arith in mul-le-mul k k in
    elim (leb_tells levels 26) as (λ _. levels ≤ 26) [
      | inl y ↦ y.1
      | inr y ↦ let more : 27 ≤ levels = (let z = y.1 in omega arith) in let p : 2 ^ 27 ≤ 2 ^ levels = pow-le-pow_right (omega arith) more in absurd (omega arith)
    ]

-- the steps of few levels
pub steps_below : (before after k n : ℕ) (levels : ℕ) → after ≤ before + 2 * ((k + 1) * levels) → 2 ^ levels ≤ (n + 1) * (n + 1) → n ≤ 10000 → k ≤ 1 → after ≤ before + 104
steps_below before after k n levels s h few one =
    let l = levels_below levels n few h in
    let p : (k + 1) * levels ≤ 2 * 26 = (let j : k + 1 ≤ 2 = omega arith in mul-le-mul j l) in
    omega arith
