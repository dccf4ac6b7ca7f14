-- A cell is among the readers of another exactly where one of its areas has it.
use Rattle.std.proofs.Common.{◌≡◌, true, false, cond, Option, None, Some, List, [], refl, ap, sym, ◌∙◌}
use Rattle.std.specs.Option.{is_some, unwrap_or}
use Rattle.std.specs.List.{filter}
use Rattle.std.specs.Map.{lookup}
use Rattle.std.proofs.lemmas.Map.Entries.{lookup-filter-values, option_filter}
use Rattle.std.proofs.lemmas.Map.Keys.{IsDistinct-from_sorted}
use Rattle.std.proofs.lemmas.Map.Made.{is_some-lookup}
use Rattle.cell_refs.specs.declared.areas.Area.{Area}
use Rattle.cell_refs.specs.declared.grid.Cell.{Cell}
use Rattle.cell_refs.specs.Area.{lies_in}
use Rattle.cell_refs.specs.Cell.{cell_cmp, is_among, same_cell}
use Rattle.cell_refs.proofs.PublicLaws.{same_cells, lies_in-among}
use Rattle.dep_table.specs.Table.{IsInOrder, areas_at, is_reader, precedents_at, readers_of}

-- whether there are areas that have the cell
kept_has : (found : Option (List Area)) (cell : Cell) → is_some (option_filter (λ areas. lies_in areas cell) found) ≡ lies_in (unwrap_or found []) cell
kept_has None cell = refl
kept_has (Some areas) cell = elim (lies_in areas cell) as (λ b. is_some (cond b (Some areas) None) ≡ b) [ true ↦ refl | false ↦ refl ]

-- a cell is among the readers of another exactly where one of its areas has it
pub readers_of-among : (table : List (Cell × List Area)) → IsInOrder table → (cell reader : Cell) → is_among (readers_of table cell) reader ≡ lies_in (areas_at table reader) cell
readers_of-among table ordered cell reader =
    sym (is_some-lookup (same_cell reader) (filter (λ e. lies_in e.1 cell) table))
    ∙ ap is_some (lookup-filter-values same_cells (λ areas. lies_in areas cell) reader table (IsDistinct-from_sorted cell_cmp _ ordered))
    ∙ kept_has (lookup (same_cell reader) table) cell

has_areas : (found : Option (List Area)) (cell : Cell) → lies_in (unwrap_or found []) cell ≡ true → is_some found ≡ true
has_areas None cell h = cc
has_areas (Some areas) cell h = refl

-- what names a cell is a reader
pub reads-reader : (table : List (Cell × List Area)) (reader cell : Cell) → lies_in (areas_at table reader) cell ≡ true → is_reader table reader ≡ true
reads-reader table reader cell h = has_areas (lookup (same_cell reader) table) cell h

-- the cells that a reader names are those that lie in its areas
pub precedents-lies_in : (table : List (Cell × List Area)) (reader cell : Cell) → is_among (precedents_at table reader) cell ≡ lies_in (areas_at table reader) cell
precedents-lies_in table reader cell = sym (lies_in-among (areas_at table reader) cell)
