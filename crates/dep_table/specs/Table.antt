-- The dependency table: the readers with the areas that each names, in cell order, each reader once.
use Rattle.std.specs.Prelude.{Bool, List, [], is_some, unwrap_or}
use Rattle.std.specs.List.{filter, flat_map}
use Rattle.std.specs.List.Sorted.{IsStrictlySortedBy}
use Rattle.std.specs.Map.{keys_of, lookup}
use Rattle.cell_refs.specs.declared.areas.Area.{Area}
use Rattle.cell_refs.specs.declared.grid.Cell.{Cell}
use Rattle.cell_refs.specs.Area.{cells_of, lies_in}
use Rattle.cell_refs.specs.Cell.{cell_cmp, same_cell}

-- the readers stand in cell order, each once
abbrev pub IsInOrder : List (Cell × List Area) → Type 0
IsInOrder table = IsStrictlySortedBy cell_cmp (keys_of table)

-- the areas that a reader names; none of a cell that is no reader
abbrev pub areas_at : List (Cell × List Area) → Cell → List Area
areas_at table reader = unwrap_or (lookup (same_cell reader) table) []

-- the cells that a reader names
abbrev pub precedents_at : List (Cell × List Area) → Cell → List Cell
precedents_at table reader = flat_map cells_of (areas_at table reader)

-- whether a cell is a reader
abbrev pub is_reader : List (Cell × List Area) → Cell → Bool
is_reader table cell = is_some (lookup (same_cell cell) table)

-- the readers that name a cell, in cell order
abbrev pub readers_of : List (Cell × List Area) → Cell → List Cell
readers_of table cell = keys_of (filter (λ e. lies_in e.1 cell) table)
