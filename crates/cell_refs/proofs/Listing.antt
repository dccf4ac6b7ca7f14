-- The cells of an area as a list: how it goes on, what it has, and in which order.
use Rattle.std.proofs.Common.{◌≡◌, ℕ, zero, suc, ◌+◌, ◌-◌, ◌*◌, ◌<◌, ◌≤◌, Bool, true, false, cond, ◌==◌, ◌⊎◌, List, [], ◌∷◌, ◌++◌, map, length, get_or, flat_map, refl, ap, sym, subst, ◌∙◌, inl, inr, ⊎_elim, arith, length-append}
use Rattle.std.proofs.Math.Nat.{mul-zero, suc-mul, zero-mul}
use Rattle.std.proofs.lemmas.Bool.Decides.{nat_tests}
use Rattle.std.proofs.lemmas.List.Elements.{Contains-append_cases, Contains-append_left, Contains-append_right, Contains-get_or}
use Rattle.std.proofs.lemmas.List.FromFn.{length-map-range_with_len}
use Rattle.std.proofs.lemmas.List.Kept.{AllPairs-cons}
use Rattle.std.specs.List.{All, AllPairs, Contains, range_with_len}
use Rattle.std.specs.declared.cmp.Ordering.TheVariants.{Less}
use Rattle.cell_refs.specs.declared.areas.Area.{Area}
use Rattle.cell_refs.specs.declared.grid.Cell.{Cell}
use Rattle.cell_refs.specs.Area.{IsArea, IsInside, cells_of, numbers_between, row_cells, size_of}
use Rattle.cell_refs.specs.AreaWalk.{area_cells_from}
use Rattle.cell_refs.specs.Cell.{IsCell, cell_cmp}

range_first : (low n m : ℕ) → n ≡ suc m → range_with_len low n ≡ low ∷ range_with_len (low + 1) m
range_first low n m e = ap (range_with_len low) e

range_none : (low n : ℕ) → n ≡ 0 → range_with_len low n ≡ []
range_none low n e = ap (range_with_len low) e

numbers_first : (low high : ℕ) → low ≤ high → numbers_between low high ≡ low ∷ numbers_between (low + 1) high
numbers_first low high h = range_first low (high + 1 - low) (high + 1 - (low + 1)) (omega arith)

numbers_none : (low high : ℕ) → high < low → numbers_between low high ≡ []
numbers_none low high h = range_none low (high + 1 - low) (omega arith)

row_first : (sheet left right row : ℕ) → left ≤ right → row_cells sheet left right row ≡ (record { sheet = sheet; row = row; col = left }) ∷ row_cells sheet (left + 1) right row
row_first sheet left right row h = ap (map (λ col. record { sheet = sheet; row = row; col = col })) (numbers_first left right h)

row_none : (sheet left right row : ℕ) → right < left → row_cells sheet left right row ≡ []
row_none sheet left right row h = ap (map (λ col. record { sheet = sheet; row = row; col = col })) (numbers_none left right h)

-- the next cell stands in the same row
pub next_in_row : (sheet left right bottom row col : ℕ) → col < right → area_cells_from sheet left right bottom row col ≡ (record { sheet = sheet; row = row; col = col }) ∷ area_cells_from sheet left right bottom row (col + 1)
next_in_row sheet left right bottom row col h = ap (λ cells. cells ++ flat_map (row_cells sheet left right) (numbers_between (row + 1) bottom)) (row_first sheet col right row (omega arith))

last_in_row : (sheet left right bottom row col : ℕ) → col ≡ right → area_cells_from sheet left right bottom row col ≡ (record { sheet = sheet; row = row; col = col }) ∷ flat_map (row_cells sheet left right) (numbers_between (row + 1) bottom)
last_in_row sheet left right bottom row col h =
    ap (λ cells. cells ++ flat_map (row_cells sheet left right) (numbers_between (row + 1) bottom)) (row_first sheet col right row (omega arith) ∙ ap (λ cells. (record { sheet = sheet; row = row; col = col }) ∷ cells) (row_none sheet (col + 1) right row (omega arith)))

-- the next cell is the first of the next row
pub next_row : (sheet left right bottom row col : ℕ) → col ≡ right → row < bottom → area_cells_from sheet left right bottom row col ≡ (record { sheet = sheet; row = row; col = col }) ∷ area_cells_from sheet left right bottom (row + 1) left
next_row sheet left right bottom row col h below =
    last_in_row sheet left right bottom row col h ∙ ap (λ rows. (record { sheet = sheet; row = row; col = col }) ∷ flat_map (row_cells sheet left right) rows) (numbers_first (row + 1) bottom (omega arith))

-- the last cell
pub no_next : (sheet left right bottom row col : ℕ) → col ≡ right → row ≡ bottom → area_cells_from sheet left right bottom row col ≡ (record { sheet = sheet; row = row; col = col }) ∷ []
no_next sheet left right bottom row col h last =
    last_in_row sheet left right bottom row col h ∙ ap (λ rows. (record { sheet = sheet; row = row; col = col }) ∷ flat_map (row_cells sheet left right) rows) (numbers_none (row + 1) bottom (omega arith))

-- all of an area, from its first cell
pub from_first : (area : Area) → area.top ≤ area.bottom → cells_of area ≡ area_cells_from area.sheet area.left area.right area.bottom area.top area.left
unfolding cells_of
from_first area h = ap (flat_map (row_cells area.sheet area.left area.right)) (numbers_first area.top area.bottom h)

pub no_rows : (area : Area) → area.bottom < area.top → cells_of area ≡ []
unfolding cells_of
no_rows area h = ap (flat_map (row_cells area.sheet area.left area.right)) (numbers_none area.top area.bottom h)

empty_rows : (sheet left right : ℕ) (rows : List ℕ) → right < left → flat_map (row_cells sheet left right) rows ≡ []
empty_rows sheet left right [] h = refl
empty_rows sheet left right (row ∷ rows) h = ap (λ cells. cells ++ flat_map (row_cells sheet left right) rows) (row_none sheet left right row h) ∙ empty_rows sheet left right rows h

pub no_columns : (area : Area) → area.right < area.left → cells_of area ≡ []
unfolding cells_of
no_columns area h = empty_rows area.sheet area.left area.right (numbers_between area.top area.bottom) h

-- how many
rows_times : (f : ℕ → List Cell) (m low n : ℕ) → ((row : ℕ) → length (f row) ≡ m) → length (flat_map f (range_with_len low n)) ≡ n * m
rows_times f m low zero each = grind arith
rows_times f m low (suc n) each =
    length-append (f low) (flat_map f (range_with_len (low + 1) n)) ∙ (rw (each low, rows_times f m (low + 1) n each) (grind arith))

pub count_cells : (area : Area) → length (cells_of area) ≡ size_of area
unfolding cells_of
count_cells area =
    rows_times (row_cells area.sheet area.left area.right) (area.right + 1 - area.left) area.top (area.bottom + 1 - area.top) (λ row. length-map-range_with_len (λ col. record { sheet = area.sheet; row = row; col = col }) area.left (area.right + 1 - area.left))

-- membership
contains_cases : {X : Type 0} (x y : X) (xs : List X) → Contains (x ∷ xs) y → (x ≡ y) ⊎ Contains xs y
contains_cases x y xs (zero, l, e) = inl e
contains_cases x y xs (suc k, l, e) = inr (k, omega arith, e)

contains_here : {X : Type 0} (x : X) (xs : List X) → Contains (x ∷ xs) x
contains_here x xs = (0, omega arith, refl)

contains_there : {X : Type 0} (x y : X) (xs : List X) → Contains xs y → Contains (x ∷ xs) y
contains_there x y xs (k, l, e) = (suc k, omega arith, e)

contains_none : {X : Type 0} (y : X) → Contains [] y → ⊥
contains_none y (k, l, e) = omega arith

-- a list over the numbers from low on, as a row or the rows
in_map : (f : ℕ → Cell) (low n : ℕ) (cell : Cell) → Contains (map f (range_with_len low n)) cell → (k : ℕ) × (low ≤ k) × (k < low + n) × (f k ≡ cell)
in_map f low zero cell h = absurd (contains_none cell h)
in_map f low (suc n) cell h =
    ⊎_elim (λ e. (low, omega arith, omega arith, e)) (λ h. let t = in_map f (low + 1) n cell h in (t.0, omega (arith, t.1), omega (arith, t.2), t.3)) (contains_cases (f low) cell (map f (range_with_len (low + 1) n)) h)

map_has : (f : ℕ → Cell) (low n k : ℕ) → low ≤ k → k < low + n → Contains (map f (range_with_len low n)) (f k)
map_has f low zero k l h = absurd (omega arith)
map_has f low (suc n) k l h =
    ⊎_elim (λ e. (let P : ℕ → Type 0 = λ j. Contains (f low ∷ map f (range_with_len (low + 1) n)) (f j) in subst P e (contains_here (f low) (map f (range_with_len (low + 1) n)))))
    (λ above. contains_there (f low) (f k) (map f (range_with_len (low + 1) n)) (map_has f (low + 1) n k above (omega arith)))
    (first_or_later low k l)
  where
    first_or_later : (low k : ℕ) → low ≤ k → (low ≡ k) ⊎ (low + 1 ≤ k)
    first_or_later low k l = grind arith

in_rows : (f : ℕ → List Cell) (low n : ℕ) (cell : Cell) → Contains (flat_map f (range_with_len low n)) cell → (k : ℕ) × (low ≤ k) × (k < low + n) × Contains (f k) cell
in_rows f low zero cell h = absurd (contains_none cell h)
in_rows f low (suc n) cell h =
    ⊎_elim (λ e. (low, omega arith, omega arith, e)) (λ h. let t = in_rows f (low + 1) n cell h in (t.0, omega (arith, t.1), omega (arith, t.2), t.3)) (Contains-append_cases (f low) (flat_map f (range_with_len (low + 1) n)) cell h)

rows_have : (f : ℕ → List Cell) (low n k : ℕ) (cell : Cell) → low ≤ k → k < low + n → Contains (f k) cell → Contains (flat_map f (range_with_len low n)) cell
rows_have f low zero k cell l h has = absurd (omega arith)
rows_have f low (suc n) k cell l h has =
    ⊎_elim (λ e. Contains-append_left (f low) (flat_map f (range_with_len (low + 1) n)) cell (let P : ℕ → Type 0 = λ j. Contains (f j) cell in subst P (sym e) has))
    (λ above. Contains-append_right (f low) (flat_map f (range_with_len (low + 1) n)) cell (rows_have f (low + 1) n k cell above (omega arith) has))
    (first_or_later low k l)
  where
    first_or_later : (low k : ℕ) → low ≤ k → (low ≡ k) ⊎ (low + 1 ≤ k)
    first_or_later low k l = grind arith

-- the list has the cells between the corners alone
pub listed_inside : (area : Area) (cell : Cell) → Contains (cells_of area) cell → IsInside area cell
unfolding cells_of
listed_inside area cell h =
    let row = in_rows (row_cells area.sheet area.left area.right) area.top (area.bottom + 1 - area.top) cell h in
    let col = in_map (λ col. record { sheet = area.sheet; row = row.0; col = col }) area.left (area.right + 1 - area.left) cell row.3 in
    rw (← col.3) (record { sheet = refl; below = row.1; above = omega (arith, row.1, row.2); after = col.1; before = omega (arith, col.1, col.2) })

-- and has each of them
pub inside_listed : (area : Area) (cell : Cell) → IsInside area cell → Contains (cells_of area) cell
unfolding cells_of
inside_listed area cell h =
    rows_have (row_cells area.sheet area.left area.right) area.top (area.bottom + 1 - area.top) cell.row cell h.below (omega (arith, h.above))
    (let P : ℕ → Type 0 = λ sheet. Contains (row_cells area.sheet area.left area.right cell.row) (record { sheet = sheet; row = cell.row; col = cell.col }) in
    subst P (sym h.sheet) (map_has (λ col. record { sheet = area.sheet; row = cell.row; col = col }) area.left (area.right + 1 - area.left) cell.col h.after (omega (arith, h.before))))

-- order
all_from_contains : {X : Type 0} (P : X → Type 0) (xs : List X) → ((x : X) → Contains xs x → P x) → All P xs
all_from_contains P xs each = λ k d l. each (get_or xs k d) (Contains-get_or xs k d l)

tail_pairs : {X : Type 0} (R : X → X → Type 0) (x : X) (xs : List X) → AllPairs R (x ∷ xs) → AllPairs R xs
tail_pairs R x xs h i j d l m = h (suc i) (suc j) d (omega arith) (omega arith)

head_pairs : {X : Type 0} (R : X → X → Type 0) (x : X) (xs : List X) → AllPairs R (x ∷ xs) → (y : X) → Contains xs y → R x y
head_pairs R x xs h y (k, l, e) = let P : _ → Type 0 = λ z. R x z in subst P e (h 0 (suc k) y (omega arith) (omega arith))

no_pairs : {X : Type 0} (R : X → X → Type 0) → AllPairs R []
no_pairs R i j d l m = absurd (omega arith)

append_pairs : {X : Type 0} (R : X → X → Type 0) (xs ys : List X) → AllPairs R xs → AllPairs R ys → ((x y : X) → Contains xs x → Contains ys y → R x y) → AllPairs R (xs ++ ys)
append_pairs R [] ys p q across = q
append_pairs R (x ∷ xs) ys p q across =
    AllPairs-cons R x (xs ++ ys)
    (all_from_contains (R x) (xs ++ ys) (λ y h. ⊎_elim (λ h. head_pairs R x xs p y h) (λ h. across x y (contains_here x xs) h) (Contains-append_cases xs ys y h)))
    (append_pairs R xs ys (tail_pairs R x xs p) q (λ z y hz hy. across z y (contains_there x z xs hz) hy))

-- the first cell comes before the second
abbrev Precedes : Cell → Cell → Type 0
Precedes a b = cell_cmp a b ≡ Less

by_column : (sheet row a b : ℕ) → a < b → Precedes (record { sheet = sheet; row = row; col = a }) (record { sheet = sheet; row = row; col = b })
by_column sheet row a b h = grind (arith, nat_tests)

by_row : (sheet a b c d : ℕ) → a < b → Precedes (record { sheet = sheet; row = a; col = c }) (record { sheet = sheet; row = b; col = d })
by_row sheet a b c d h = grind (arith, nat_tests)

row_ordered : (sheet row low n : ℕ) → AllPairs Precedes (map (λ col. record { sheet = sheet; row = row; col = col }) (range_with_len low n))
row_ordered sheet row low zero = no_pairs Precedes
row_ordered sheet row low (suc n) =
    AllPairs-cons Precedes (record { sheet = sheet; row = row; col = low }) (map (λ col. record { sheet = sheet; row = row; col = col }) (range_with_len (low + 1) n))
    (all_from_contains (Precedes (record { sheet = sheet; row = row; col = low })) (map (λ col. record { sheet = sheet; row = row; col = col }) (range_with_len (low + 1) n))
    (λ cell h. let t = in_map (λ col. record { sheet = sheet; row = row; col = col }) (low + 1) n cell h in rw (← t.3) (by_column sheet row low t.0 (omega (arith, t.1)))))
    (row_ordered sheet row (low + 1) n)

rows_ordered : (sheet left right low n : ℕ) → AllPairs Precedes (flat_map (row_cells sheet left right) (range_with_len low n))
rows_ordered sheet left right low zero = no_pairs Precedes
rows_ordered sheet left right low (suc n) =
    append_pairs Precedes (row_cells sheet left right low) (flat_map (row_cells sheet left right) (range_with_len (low + 1) n))
    (row_ordered sheet low left (right + 1 - left))
    (rows_ordered sheet left right (low + 1) n)
    (λ a b ha hb.
    let first = in_map (λ col. record { sheet = sheet; row = low; col = col }) left (right + 1 - left) a ha in
    let row = in_rows (row_cells sheet left right) (low + 1) n b hb in
    let second = in_map (λ col. record { sheet = sheet; row = row.0; col = col }) left (right + 1 - left) b row.3 in
    rw (← first.3, ← second.3) (by_row sheet low row.0 first.0 second.0 (omega (arith, row.1))))

pub listed_in_order : (area : Area) → AllPairs (λ a b. cell_cmp a b ≡ Less) (cells_of area)
unfolding cells_of
listed_in_order area = rows_ordered area.sheet area.left area.right area.top (area.bottom + 1 - area.top)

-- what is still to come, where the last cell wasn't given
going_on : (ended : Bool) (cells : List Cell) → ended ≡ false → cond ended [] cells ≡ cells
going_on ended cells going = ap (λ b. cond b [] cells) going

pub steps_in_row : (now : List Cell) (ended : Bool) (sheet left right bottom row col : ℕ) → now ≡ cond ended [] (area_cells_from sheet left right bottom row col) → ended ≡ false → col < right
    → now ≡ (record { sheet = sheet; row = row; col = col }) ∷ cond ended [] (area_cells_from sheet left right bottom row (col + 1))
steps_in_row now ended sheet left right bottom row col is going h =
    is ∙ (going_on ended (area_cells_from sheet left right bottom row col) going ∙ (next_in_row sheet left right bottom row col h ∙ ap (λ cells. (record { sheet = sheet; row = row; col = col }) ∷ cells) (sym (going_on ended (area_cells_from sheet left right bottom row (col + 1)) going))))

pub steps_to_row : (now : List Cell) (ended : Bool) (sheet left right bottom row col : ℕ) → now ≡ cond ended [] (area_cells_from sheet left right bottom row col) → ended ≡ false → col ≡ right → row < bottom
    → now ≡ (record { sheet = sheet; row = row; col = col }) ∷ cond ended [] (area_cells_from sheet left right bottom (row + 1) left)
steps_to_row now ended sheet left right bottom row col is going last h =
    is ∙ (going_on ended (area_cells_from sheet left right bottom row col) going ∙ (next_row sheet left right bottom row col last h ∙ ap (λ cells. (record { sheet = sheet; row = row; col = col }) ∷ cells) (sym (going_on ended (area_cells_from sheet left right bottom (row + 1) left) going))))

-- an area without cells lacks rows or columns
lacks : (rows columns : ℕ) → rows * columns ≡ 0 → (rows ≡ 0) ⊎ (columns ≡ 0)
lacks zero columns e = inl refl
lacks (suc rows) columns e = inr (let h : suc rows * columns ≡ rows * columns + columns = suc-mul rows columns in omega (arith, h))

pub has_both : (rows columns : ℕ) → (rows * columns ≡ 0 → ⊥) → (0 < rows) × (0 < columns)
has_both zero columns other = absurd (other (zero-mul columns))
has_both (suc rows) zero other = absurd (other (mul-zero (suc rows)))
has_both (suc rows) (suc columns) other = (omega arith, omega arith)

-- the cells of an area, as they are at first still to come
pub begins : (area : Area) (ended : Bool) → ended ≡ (size_of area == 0) → cond ended [] (area_cells_from area.sheet area.left area.right area.bottom area.top area.left) ≡ cells_of area
begins area true e =
    let none : size_of area ≡ 0 = grind (arith, nat_tests, e) in
    ⊎_elim (λ h. sym (no_rows area (omega (arith, h)))) (λ h. sym (no_columns area (omega (arith, h)))) (lacks (area.bottom + 1 - area.top) (area.right + 1 - area.left) none)
begins area false e =
    let some : size_of area ≡ 0 → ⊥ = λ none. (let test : (size_of area == 0) ≡ true = grind (arith, nat_tests, none) in let both : false ≡ true = e ∙ test in cc) in
    let both = has_both (area.bottom + 1 - area.top) (area.right + 1 - area.left) some in
    sym (from_first area (omega (arith, both.0)))

-- an area inside the grid has cells of the grid alone
pub grid_cells : (area : Area) (cell : Cell) → IsArea area → IsInside area cell → IsCell cell
grid_cells area cell fits h = record {
  sheet = rw h.sheet fits.first.sheet;
  row = (omega (arith, h.below, fits.first.row.0), omega (arith, h.above, fits.last.row.1));
  col = (omega (arith, h.after, fits.first.col.0), omega (arith, h.before, fits.last.col.1));
}
