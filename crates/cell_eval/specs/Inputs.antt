-- For the crate's own functions: entries in the order of cells, read cell by cell.
use Rattle.std.specs.Prelude.{if◌then◌else◌, Bool, true, ◌&&◌, List, [], ◌∷◌}
use Rattle.std.specs.Ordering.{is_lt}
use Rattle.cell_refs.specs.declared.grid.Cell.{Cell}
use Rattle.cell_refs.specs.Cell.{cell_cmp, same_cell}
use Rattle.cell_values.specs.declared.values.Value.{Value}
use Rattle.cell_values.specs.declared.values.Value.TheVariants as values

-- the entries from a cell on
abbrev pub from_cell : List (Cell × Value) → Cell → List (Cell × Value)
from_cell [] cell = []
from_cell (e ∷ es) cell = if is_lt (cell_cmp e.0 cell) then from_cell es cell else e ∷ es

-- the value of a cell, where no entry before the first is the cell's
abbrev pub head_value : List (Cell × Value) → Cell → Value
head_value [] cell = values.Blank
head_value (e ∷ es) cell = if same_cell cell e.0 then e.1 else values.Blank

-- whether the cells of entries ascend from a cell on
abbrev pub ascends_from : Cell → List (Cell × Value) → Bool
ascends_from last [] = true
ascends_from last (e ∷ es) = is_lt (cell_cmp last e.0) && ascends_from e.0 es
