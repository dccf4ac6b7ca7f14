-- The cells of one area in the order of cells: the first, and the next after each cell.
use Rattle.std.proofs.Common.{◌≡◌, ℕ, ◌+◌, ◌≤◌, ◌<◌, Bool, true, false, None, Some, [], ◌∷◌, arith, inl, inr, refl}
use Rattle.std.specs.Ordering.{nat_cmp, ordering_then, is_lt}
use Rattle.std.proofs.lemmas.Bool.{or_cases}
use Rattle.std.proofs.lemmas.Bool.Decides.{nat_tests}
use Rattle.cell_refs.specs.declared.areas.Area.{Area}
use Rattle.cell_refs.specs.declared.grid.Cell.{Cell}
use Rattle.cell_refs.specs.Area.{IsInside, area_has, lies_in}
use Rattle.cell_store.specs.Gathering.{is_less}
use Rattle.cell_store.specs.Scanning.{IsNext, corner}

-- whether a sheet, a row and a column stand before three others
abbrev triple_less : ℕ → ℕ → ℕ → ℕ → ℕ → ℕ → Bool
triple_less s r c t u d = is_lt (ordering_then (nat_cmp s t) (ordering_then (nat_cmp r u) (nat_cmp c d)))

-- the sheet s and the row r don't stand behind the sheet t and the row u, and where they are level the last fact holds of the columns
record Leads (s r t u : ℕ) (Last : Type 0) : Type 0 where
  sheets : s ≤ t
  rows : s ≡ t → r ≤ u
  columns : s ≡ t → r ≡ u → Last

-- what is less stands on no later sheet
less_sheets : (s r c t u d : ℕ) → triple_less s r c t u d ≡ true → s ≤ t
less_sheets s r c t u d h = grind (arith, nat_tests)

-- on one sheet it stands in no later row
less_rows : (s r c t u d : ℕ) → triple_less s r c t u d ≡ true → s ≡ t → r ≤ u
less_rows s r c t u d h e = grind (arith, nat_tests)

-- in one row it stands in an earlier column
less_columns : (s r c t u d : ℕ) → triple_less s r c t u d ≡ true → s ≡ t → r ≡ u → c < d
less_columns s r c t u d h e f = grind (arith, nat_tests)

-- what being less says of the numbers
less_leads : (s r c t u d : ℕ) → triple_less s r c t u d ≡ true → Leads s r t u (c < d)
less_leads s r c t u d h = record { sheets = less_sheets s r c t u d h; rows = less_rows s r c t u d h; columns = less_columns s r c t u d h }

-- what is less by its numbers
leads_less : (s r c t u d : ℕ) → s ≤ t → (s ≡ t → r ≤ u) → (s ≡ t → r ≡ u → c < d) → triple_less s r c t u d ≡ true
leads_less s r c t u d h k l = grind (arith, nat_tests)

-- what isn't less stands on no earlier sheet
not_sheets : (s r c t u d : ℕ) → triple_less s r c t u d ≡ false → t ≤ s
not_sheets s r c t u d h = grind (arith, nat_tests)

-- on one sheet it stands in no earlier row
not_rows : (s r c t u d : ℕ) → triple_less s r c t u d ≡ false → t ≡ s → u ≤ r
not_rows s r c t u d h e = grind (arith, nat_tests)

-- in one row it stands in no earlier column
not_columns : (s r c t u d : ℕ) → triple_less s r c t u d ≡ false → t ≡ s → u ≡ r → d ≤ c
not_columns s r c t u d h e f = grind (arith, nat_tests)

-- what not being less says of the numbers
not_leads : (s r c t u d : ℕ) → triple_less s r c t u d ≡ false → Leads t u s r (d ≤ c)
not_leads s r c t u d h = record { sheets = not_sheets s r c t u d h; rows = not_rows s r c t u d h; columns = not_columns s r c t u d h }

-- what isn't less by its numbers
leads_not : (s r c t u d : ℕ) → t ≤ s → (t ≡ s → u ≤ r) → (t ≡ s → u ≡ r → d ≤ c) → triple_less s r c t u d ≡ false
leads_not s r c t u d h k l = grind (arith, nat_tests)

-- what one cell's being less than another says of their numbers
less_means : (a b : Cell) → is_less a b ≡ true → Leads a.sheet a.row b.sheet b.row (a.col < b.col)
less_means a b h = less_leads a.sheet a.row a.col b.sheet b.row b.col h

-- what its not being less says
not_means : (a b : Cell) → is_less a b ≡ false → Leads b.sheet b.row a.sheet a.row (b.col ≤ a.col)
not_means a b h = not_leads a.sheet a.row a.col b.sheet b.row b.col h

-- a cell that passes the test of an area lies inside it
pub is_inside : (area : Area) (q : Cell) → area_has area q ≡ true → IsInside area q
is_inside area q h = record {
  sheet = grind (arith, nat_tests);
  below = grind (arith, nat_tests);
  above = grind (arith, nat_tests);
  after = grind (arith, nat_tests);
  before = grind (arith, nat_tests);
}

-- a test doesn't both pass and fail
cannot : (b c : Bool) → b ≡ true → b ≡ false → c ≡ true
cannot b c h k = cc

-- what lies in the one area lies inside it
pub lies-inside : (area : Area) (q : Cell) → lies_in (area ∷ []) q ≡ true → IsInside area q
lies-inside area q h = elim (or_cases (area_has area q) false h) as (λ _. IsInside area q) [
  | inl inside ↦ is_inside area q inside
  | inr none ↦ is_inside area q (cannot false (area_has area q) none refl)
]

-- no cell of an area stands before its first one
pub corner-first : (area : Area) (q : Cell) → lies_in (area ∷ []) q ≡ true → is_less q (corner area) ≡ false
corner-first area q h =
    let i = lies-inside area q h in
    leads_not q.sheet q.row q.col area.sheet area.top area.left (omega (arith, i.sheet)) (λ _. i.below) (λ _ _. i.after)

-- before the first cell of an area the next one is that
pub next-corner : (area : Area) (cell : Cell) → is_less cell (corner area) ≡ true → IsNext (area ∷ []) cell (Some (corner area))
next-corner area cell less = (less, λ q lies _. corner-first area q lies)

-- on a later sheet, or below the area, none is next
pub next-below : (area : Area) (cell : Cell) → area.sheet ≤ cell.sheet → (cell.sheet ≤ area.sheet → area.bottom < cell.row) → IsNext (area ∷ []) cell None
next-below area cell sheet below q lies =
    let i = lies-inside area q lies in
    leads_not cell.sheet cell.row cell.col q.sheet q.row q.col (omega (arith, i.sheet)) (λ e. omega (arith, i.sheet, i.above, below)) (λ e f. omega (arith, i.sheet, i.above, below))

-- left of the area the next one is the first of the cell's row
pub next-left : (area : Area) (cell : Cell) → cell.col < area.left → IsNext (area ∷ []) cell (Some (record { sheet = cell.sheet; row = cell.row; col = area.left }))
next-left area cell left = (
  leads_less cell.sheet cell.row cell.col cell.sheet cell.row area.left (omega arith) (λ _. omega arith) (λ _ _. left),
  λ q lies less.
      let i = lies-inside area q lies in
      let m = less_means cell q less in
      leads_not q.sheet q.row q.col cell.sheet cell.row area.left m.sheets m.rows (λ _ _. i.after),
)

-- the cell to the right of a cell is next
pub next-right : (area : Area) (cell : Cell) → IsNext (area ∷ []) cell (Some (record { sheet = cell.sheet; row = cell.row; col = cell.col + 1 }))
next-right area cell = (
  leads_less cell.sheet cell.row cell.col cell.sheet cell.row (cell.col + 1) (omega arith) (λ _. omega arith) (λ _ _. omega arith),
  λ q lies less.
      let m = less_means cell q less in
      leads_not q.sheet q.row q.col cell.sheet cell.row (cell.col + 1) m.sheets m.rows (λ e f. omega (arith, m.columns e f)),
)

-- at the right end of a row the next one is the first of the next row
pub next-row : (area : Area) (cell : Cell) → cell.sheet ≡ area.sheet → area.right ≤ cell.col → IsNext (area ∷ []) cell (Some (record { sheet = cell.sheet; row = cell.row + 1; col = area.left }))
next-row area cell sheet right = (
  leads_less cell.sheet cell.row cell.col cell.sheet (cell.row + 1) area.left (omega arith) (λ _. omega arith) (λ _ f. omega (arith, f)),
  λ q lies less.
      let i = lies-inside area q lies in
      let m = less_means cell q less in
      leads_not q.sheet q.row q.col cell.sheet (cell.row + 1) area.left m.sheets (λ e. row_behind cell.row q.row cell.col q.col area.right (m.rows e) (m.columns e) right i.before) (λ _ _. i.after),
)
  where
    row_behind : (a b c d right : ℕ) → a ≤ b → (a ≡ b → c < d) → right ≤ c → d ≤ right → a + 1 ≤ b
    row_behind a b c d right h k l m = grind arith

-- at the last cell none is next
pub next-end : (area : Area) (cell : Cell) → cell.sheet ≡ area.sheet → area.right ≤ cell.col → area.bottom ≤ cell.row → IsNext (area ∷ []) cell None
next-end area cell sheet right bottom q lies =
    let i = lies-inside area q lies in
    leads_not cell.sheet cell.row cell.col q.sheet q.row q.col (omega (arith, i.sheet)) (λ _. omega (arith, i.above)) (λ _ _. omega (arith, i.before))

-- a cell that doesn't stand before the first one stands on its sheet or on a later one
pub corner-sheet : (area : Area) (cell : Cell) → is_less cell (corner area) ≡ false → area.sheet ≤ cell.sheet
corner-sheet area cell behind = (not_means cell (corner area) behind).sheets
