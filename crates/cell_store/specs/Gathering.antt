-- The cells of areas: their values, and those that have none.
use Rattle.std.specs.Prelude.{◌≡◌, Bool, true, false, ◌&&◌, Option, None, Some, is_none, option_map, List}
use Rattle.std.specs.Ordering.{is_lt}
use Rattle.cell_refs.specs.declared.areas.Area.{Area}
use Rattle.cell_refs.specs.declared.grid.Cell.{Cell}
use Rattle.cell_refs.specs.Area.{lies_in}
use Rattle.cell_refs.specs.Cell.{cell_cmp}
use Rattle.cell_values.specs.declared.values.Value.{Value}
use Rattle.cell_store.specs.Store.{AreInOrder, entry_at}

-- whether a cell is less than another
abbrev pub is_less : Cell → Cell → Bool
is_less a b = is_lt (cell_cmp a b)

-- whether this is present with no value
abbrev pub has_no_value : Option (Option Value) → Bool
has_no_value None = false
has_no_value (Some value) = is_none value

-- a cell of the areas is present with no value, where at tells what is present
abbrev pub HasUnknown : (Cell → Option (Option Value)) → List Area → Type 0
HasUnknown at areas = (q : Cell) × (lies_in areas q ≡ true) × (at q ≡ Some None)

-- the entries are those of the cells of the areas that are present, each with its value, in cell order
pub record AreGathered (at : Cell → Option (Option Value)) (areas : List Area)
    (entries : List (Cell × Value)) : Type 0 where
  pub ordered : AreInOrder entries
  pub values : (q : Cell) → lies_in areas q ≡ true → option_map Some (entry_at entries q) ≡ at q
  pub others : (q : Cell) → lies_in areas q ≡ false → entry_at entries q ≡ None

-- whether a cell stands behind another, where there is one
abbrev pub is_behind : Option Cell → Cell → Bool
is_behind None q = true
is_behind (Some cell) q = is_less cell q

-- whether a cell of the areas stands behind another, where there is one, and is present with no value
abbrev pub is_sought : (Cell → Option (Option Value)) → List Area → Option Cell → Cell → Bool
is_sought at areas after q = is_behind after q && (lies_in areas q && has_no_value (at q))

-- the least cell that passes a test; None where none passes it
abbrev pub IsLeast : (Cell → Bool) → Option Cell → Type 0
IsLeast test None = (q : Cell) → test q ≡ false
IsLeast test (Some cell) =
    (test cell ≡ true) × ((q : Cell) → test q ≡ true → is_less q cell ≡ false)
