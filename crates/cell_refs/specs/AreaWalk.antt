-- For the crate's own functions: the cells of an area that are still to come.
use Rattle.std.specs.Prelude.{ℕ, ◌+◌, List, ◌++◌, flat_map}
use Rattle.cell_refs.specs.declared.grid.Cell.{Cell}
use Rattle.cell_refs.specs.Area.{numbers_between, row_cells}

-- the cells from a place in an area on: the rest of its row, and the rows below
abbrev pub area_cells_from : ℕ → ℕ → ℕ → ℕ → ℕ → ℕ → List Cell
area_cells_from sheet left right bottom row col =
    row_cells sheet col right row
    ++ flat_map (row_cells sheet left right) (numbers_between (row + 1) bottom)
