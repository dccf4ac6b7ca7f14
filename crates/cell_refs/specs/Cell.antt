-- Cells, their order, and whether two are one.
use Rattle.std.specs.Prelude.{ℕ, Bool, ◌≤◌, List}
use Rattle.std.specs.declared.cmp.Ordering.{Ordering}
use Rattle.std.specs.Ordering.{nat_cmp, ordering_then, is_eq}
use Rattle.std.specs.Cmp.{IsTotalOrder, nat_cmp_total, on_total, then_total}
use Rattle.std.specs.List.{list_any}
use Rattle.cell_refs.specs.declared.grid.Cell.{Cell}
use Rattle.cell_refs.specs.declared.grid.TheConstants.{SHEETS, ROWS, COLUMNS}

-- a sheet of the grid
abbrev pub IsSheet : ℕ → Type 0
IsSheet sheet = (1 ≤ sheet) × (sheet ≤ SHEETS)

-- a cell of the grid
pub record IsCell (cell : Cell) : Type 0 where
  pub sheet : IsSheet cell.sheet
  pub row : (1 ≤ cell.row) × (cell.row ≤ ROWS)
  pub col : (1 ≤ cell.col) × (cell.col ≤ COLUMNS)

-- by sheet, then by row, then by column
abbrev pub cell_cmp : Cell → Cell → Ordering
cell_cmp a b =
    ordering_then (nat_cmp a.sheet b.sheet)
    (ordering_then (nat_cmp a.row b.row) (nat_cmp a.col b.col))

-- that is a total order
pub cells_total : IsTotalOrder cell_cmp
cells_total =
    then_total (on_total (λ c. c.sheet) nat_cmp_total)
    (then_total (on_total (λ c. c.row) nat_cmp_total) (on_total (λ c. c.col) nat_cmp_total))

-- whether two cells are one
abbrev pub same_cell : Cell → Cell → Bool
same_cell a b = is_eq (cell_cmp a b)

-- whether a cell is among those
abbrev pub is_among : List Cell → Cell → Bool
is_among cells cell = list_any (same_cell cell) cells
