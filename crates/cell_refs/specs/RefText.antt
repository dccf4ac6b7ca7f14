-- Written references.
use Rattle.std.specs.Prelude.{ℕ, unwrap_or}
use Rattle.cell_refs.specs.Cell.{IsCell}
use Rattle.cell_refs.specs.declared.grid.Cell.{Cell}
use Rattle.cell_refs.specs.declared.references.RefText.{RefText}

-- the cell that a reference means in a formula on the sheet home
abbrev pub cell_at : RefText → ℕ → Cell
cell_at r home = record { sheet = unwrap_or r.sheet home; row = r.row; col = r.col }

-- a reference inside the grid
abbrev pub IsReference : RefText → Type 0
IsReference r = IsCell (cell_at r 1)
