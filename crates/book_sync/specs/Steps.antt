-- For the crate's own functions: what one step changes.
use Rattle.std.specs.Prelude.{◌≡◌, ◌⊎◌, true, false, Option, None, Some, List}
use Rattle.std.specs.Map.{lookup}
use Rattle.cell_refs.specs.declared.areas.Area.{Area}
use Rattle.cell_refs.specs.declared.grid.Cell.{Cell}
use Rattle.cell_refs.specs.Cell.{is_among, same_cell}
use Rattle.cell_store.specs.Store.{KeepsShown, StoreState, is_touched, present_at}
use Rattle.formula_parse.specs.declared.nodes.Node.{Node}
use Rattle.workbook.specs.declared.contents.Content.{Content}
use Rattle.workbook.specs.Book.{IsInOrder, by_content, content_at}
use Rattle.book_sync.specs.Following.{formula_areas, present_by_content}

-- the formula that a content is; None of a constant and of no content
abbrev pub formula_of : Option Content → Option Node
formula_of content = by_content (λ v. None) Some content

-- at most these cells were put: elsewhere what is present is as before, and no other cell is newly touched
pub record PutsAmong (cells : List Cell) (old new : StoreState) : Type 0 where
  pub others : (cell : Cell) → is_among cells cell ≡ false
      → present_at new cell ≡ present_at old cell
  pub only : (cell : Cell) → is_touched new cell ≡ true
      → (is_touched old cell ≡ true) ⊎ (is_among cells cell ≡ true)
  pub kept : (cell : Cell) → is_touched old cell ≡ true → is_touched new cell ≡ true
  pub shown : KeepsShown old new

-- table and store have of a cell what the book says, which is in order, and the cell is touched
pub record IsInStep (book : List (Cell × Content)) (table : List (Cell × List Area))
    (store : StoreState) (cell : Cell) : Type 0 where
  pub ordered : IsInOrder book
  pub areas : lookup (same_cell cell) table ≡ formula_areas book cell
  pub present : present_at store cell ≡ present_by_content (content_at book cell)
  pub touched : is_touched store cell ≡ true

-- each of these cells is present with no value, and touched
pub record AreEmpty (cells : List Cell) (store : StoreState) : Type 0 where
  pub present : (cell : Cell) → is_among cells cell ≡ true → present_at store cell ≡ Some None
  pub touched : (cell : Cell) → is_among cells cell ≡ true → is_touched store cell ≡ true
