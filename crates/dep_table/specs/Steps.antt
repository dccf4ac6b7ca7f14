-- How many steps a search of the table takes.
use Rattle.std.specs.Prelude.{ℕ, ◌+◌, ◌*◌, ◌^◌, ◌≤◌, ◌==◌, ◌&&◌, nat_le, Bool, List, length, count_by}
use Rattle.std.specs.List.{filter, flat_map}
use Rattle.cell_refs.specs.declared.areas.Area.{Area}
use Rattle.cell_refs.specs.declared.grid.Cell.{Cell}

-- the areas of the readers on a sheet
abbrev pub areas_on : List (Cell × List Area) → ℕ → List Area
areas_on table sheet = filter (λ area. area.sheet == sheet) (flat_map (λ e. e.1) table)

-- whether the area's rows have the row
abbrev pub has_row : ℕ → Area → Bool
has_row row area = nat_le area.top row && nat_le row area.bottom

-- the steps between two counts are few: at most twice some levels for each area whose rows have the cell's, and twice
-- the levels, where there are few levels for the number of areas on the sheet
abbrev pub IsFewSteps : List (Cell × List Area) → Cell → ℕ → ℕ → Type 0
IsFewSteps table cell before after =
    (levels : ℕ)
    × (after ≤ before + 2 * ((count_by (has_row cell.row) (areas_on table cell.sheet) + 1) * levels))
    × (2 ^ levels ≤ (length (areas_on table cell.sheet) + 1) * (length (areas_on table cell.sheet) + 1))
