-- For the crate's own functions: which cells a begin puts down to be looked at, and what it makes of all formula cells.
use Rattle.std.specs.Prelude.{◌≡◌, Bool, true, not, ◌&&◌, ◌||◌, if◌then◌else◌, Some, None, List, []}
use Rattle.std.specs.List.{IsDistinct}
use Rattle.cell_chain.specs.CellOrder.{CellOrder}
use Rattle.calc_round.specs.declared.open_work.OpenWork.{OpenWork}
use Rattle.cell_refs.specs.declared.areas.Area.{Area}
use Rattle.cell_refs.specs.declared.grid.Cell.{Cell}
use Rattle.cell_refs.specs.Area.{lies_in}
use Rattle.cell_refs.specs.Cell.{is_among, same_cell}
use Rattle.cell_store.specs.Store.{StoreState, is_touched, present_at}
use Rattle.dep_table.specs.Table.{areas_at}

-- whether a reader names itself
abbrev pub names_itself : List (Cell × List Area) → Cell → Bool
names_itself table cell = lies_in (areas_at table cell) cell

-- the marked cells that don't name themselves, each once
pub record AreDue (table : List (Cell × List Area)) (marks due : List Cell) : Type 0 where
  pub once : IsDistinct same_cell due
  pub marked : (cell : Cell) → is_among due cell ≡ (is_among marks cell && not (names_itself table cell))

-- the chain has the same entries, each once, and none is due
pub record IsIdle (old new : CellOrder) : Type 0 where
  pub entries : new.entries ≡ old.entries
  pub due : new.due ≡ []
  pub once : IsDistinct same_cell new.entries

-- the same calls are open, of the same session
pub record KeepsCalls (old new : OpenWork) : Type 0 where
  pub calls : new.calls.calls ≡ old.calls.calls
  pub session : new.calls.session ≡ old.calls.session

-- all these cells are changed and marked, and present with no value, and touched
pub record AreAllChanged (cells before after marks : List Cell) (old new : StoreState) : Type 0 where
  pub changed : (cell : Cell) → is_among after cell ≡ (is_among before cell || is_among cells cell)
  pub marked : (cell : Cell) → is_among marks cell ≡ is_among cells cell
  pub present : (cell : Cell) → present_at new cell ≡ (if is_among cells cell then Some None else present_at old cell)
  pub touched : (cell : Cell) → is_among cells cell ≡ true → is_touched new cell ≡ true

-- these cells are those of two lists
abbrev pub AreBoth : List Cell → List Cell → List Cell → Type 0
AreBoth one other both = (cell : Cell)
    → is_among both cell ≡ (is_among one cell || is_among other cell)
