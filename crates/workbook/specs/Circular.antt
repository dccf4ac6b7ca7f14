-- Circular cells, by walks along the cells that formulas name.
use Rattle.std.specs.Prelude.{ℕ, zero, suc, Bool, List}
use Rattle.std.specs.List.{list_any}
use Rattle.cell_refs.specs.declared.grid.Cell.{Cell}
use Rattle.workbook.specs.declared.contents.Content.{Content}
use Rattle.workbook.specs.Book.{is_formula, cell_precedents, formula_count}

-- whether a walk of this many steps leads from the cell along formula cells, each of which names the next
abbrev pub walks_on : List (Cell × Content) → ℕ → Cell → Bool
walks_on book zero cell = is_formula book cell
walks_on book (suc steps) cell = list_any (walks_on book steps) (cell_precedents book cell)

-- whether a cell is circular: a walk of as many steps as there are formula cells passes one of them twice
abbrev pub is_circular : List (Cell × Content) → Cell → Bool
is_circular book cell = walks_on book (formula_count book) cell
