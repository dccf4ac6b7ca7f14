-- For the crate's own functions: how marks spread from a cell.
use Rattle.std.specs.Prelude.{◌≡◌, true, false, ◌||◌, List, [], ◌∷◌}
use Rattle.std.specs.List.{IsDistinct}
use Rattle.cell_refs.specs.declared.areas.Area.{Area}
use Rattle.cell_refs.specs.declared.grid.Cell.{Cell}
use Rattle.cell_refs.specs.Area.{lies_in}
use Rattle.cell_refs.specs.Cell.{is_among, same_cell}
use Rattle.dep_table.specs.Table.{areas_at, is_reader}
use Rattle.stale_marks.specs.Marks.{IsDependent}

-- each of these cells is a reader from which the origin is reached
abbrev pub AreDependents : List (Cell × List Area) → Cell → List Cell → Type 0
AreDependents table origin cells = (cell : Cell) → is_among cells cell ≡ true → IsDependent table origin cell

-- the marks are the old ones and what was added, each once and none of the old ones
pub record HasSpread (table : List (Cell × List Area)) (origin : Cell) (old marks added : List Cell) : Type 0 where
  pub made : (cell : Cell) → is_among marks cell ≡ (is_among old cell || is_among added cell)
  pub fresh : (cell : Cell) → is_among added cell ≡ true → is_among old cell ≡ false
  pub distinct : IsDistinct same_cell added
  pub dependents : AreDependents table origin added

-- after a refusal some of what was added may not be marked
pub record HasSpreadInPart (old marks added : List Cell) : Type 0 where
  pub kept : (cell : Cell) → is_among old cell ≡ true → is_among marks cell ≡ true
  pub made : (cell : Cell) → is_among marks cell ≡ true → (is_among old cell || is_among added cell) ≡ true
  pub fresh : (cell : Cell) → is_among added cell ≡ true → is_among old cell ≡ false

-- the readers of each of these cells are marked
abbrev pub AreWalked : List (Cell × List Area) → List Cell → List Cell → Type 0
AreWalked table marks cells = (cell reader : Cell) → is_among cells cell ≡ true
    → lies_in (areas_at table reader) cell ≡ true → is_among marks reader ≡ true

-- the origin was added, if it is a reader; else its readers are marked
pub record HasBegun (table : List (Cell × List Area)) (origin : Cell) (marks added : List Cell) : Type 0 where
  pub itself : is_reader table origin ≡ true → is_among added origin ≡ true
  pub readers : is_reader table origin ≡ false → AreWalked table marks (origin ∷ [])
