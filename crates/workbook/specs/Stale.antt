-- Stale cells, by reaching a changed cell along the cells that formulas name.
use Rattle.std.specs.Prelude.{ℕ, Bool, ◌&&◌, List}
use Rattle.std.specs.List.{count_by, filter}
use Rattle.std.specs.Map.{keys_of}
use Rattle.cell_refs.specs.declared.grid.Cell.{Cell}
use Rattle.cell_refs.specs.Reaching as reaching
use Rattle.workbook.specs.declared.contents.Content.{Content}
use Rattle.workbook.specs.Book.{is_formula, cell_precedents, formula_count}

-- whether a changed cell is reached from the cell in at most this many steps, each from a cell to one that its formula names
abbrev pub reaches : List (Cell × Content) → List Cell → ℕ → Cell → Bool
reaches book = reaching.reaches (cell_precedents book)

-- whether a cell is stale: a formula cell from which a changed cell is reached
abbrev pub is_stale : List (Cell × Content) → List Cell → Cell → Bool
is_stale book changed cell = is_formula book cell && reaches book changed (formula_count book) cell

-- the stale cells, in cell order
abbrev pub stale_cells : List (Cell × Content) → List Cell → List Cell
stale_cells book changed = keys_of (filter (λ e. is_stale book changed e.0) book)

-- how many cells are stale
abbrev pub stale_count : List (Cell × Content) → List Cell → ℕ
stale_count book changed = count_by (λ e. is_stale book changed e.0) book
