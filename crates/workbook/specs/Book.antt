-- The book: the cells with content, in cell order, and the registered functions.
use Rattle.std.specs.Prelude.{◌≡◌, ℕ, Bool, true, false, not, ◌&&◌, nat_le, if◌then◌else◌, Option, None, Some, is_none, List, [], ◌∷◌, length}
use Rattle.std.specs.List.{count_by, filter}
use Rattle.std.specs.Ordering.{is_le, is_lt}
use Rattle.std.specs.Map.{lookup, keys_of}
use Rattle.std.specs.List.Sorted.{IsStrictlySortedBy}
use Rattle.cell_refs.specs.declared.grid.Cell.{Cell}
use Rattle.cell_refs.specs.Cell.{cell_cmp, same_cell}
use Rattle.addin_types.specs.declared.registrations.Registration.{Registration}
use Rattle.cell_values.specs.declared.values.Value.{Value}
use Rattle.cell_values.specs.declared.values.Value.TheVariants as values
use Rattle.formula_parse.specs.declared.nodes.Node.{Node}
use Rattle.formula_parse.specs.Tree.{precedents}
use Rattle.workbook.specs.declared.contents.Content.{Content}
use Rattle.workbook.specs.declared.contents.Content.TheVariants as contents
use Rattle.workbook.specs.declared.books.SetFault.{SetFault}
use Rattle.workbook.specs.declared.books.SetFault.TheVariants as faults

-- a book: the cells with content, in cell order, and the functions by name, in the order of the names' bytes
pub record BookState : Type 0 where
  pub contents : List (Cell × Content)
  pub functions : List (List ℕ × Registration)

-- the cells of a book stand in cell order, each once
abbrev pub IsInOrder : List (Cell × Content) → Type 0
IsInOrder book = IsStrictlySortedBy cell_cmp (keys_of book)

-- the content of a cell
abbrev pub content_at : List (Cell × Content) → Cell → Option Content
content_at book cell = lookup (same_cell cell) book

-- new has this content at the cell, or none, and elsewhere what old has
abbrev pub PutsContent : List (Cell × Content) → List (Cell × Content) → Cell → Option Content → Type 0
PutsContent old new cell content = (q : Cell) → content_at new q ≡ (if same_cell cell q then content else content_at old q)

-- new has this content at the cell, and elsewhere what old has
abbrev pub SetsContent : List (Cell × Content) → List (Cell × Content) → Cell → Content → Type 0
SetsContent old new cell content = (q : Cell) → content_at new q ≡ (if same_cell cell q then Some content else content_at old q)

-- by the value that a constant counts as, Blank where there is no content, or by the tree of a formula
abbrev pub by_content : {A : Type 0} → (Value → A) → (Node → A) → Option Content → A
by_content constant formula None = constant values.Blank
by_content constant formula (Some (contents.Num n)) = constant (values.Num n)
by_content constant formula (Some (contents.Text t)) = constant (values.Text t)
by_content constant formula (Some (contents.Bool b)) = constant (values.Bool b)
by_content constant formula (Some (contents.Error e)) = constant (values.Error e)
by_content constant formula (Some (contents.Formula tree)) = formula tree

-- whether a content is a formula
abbrev pub has_formula : Option Content → Bool
has_formula = by_content (λ v. false) (λ tree. true)

-- 1 for a formula, else 0
abbrev pub formula_weight : Content → ℕ
formula_weight content = if has_formula (Some content) then 1 else 0

-- how many cells have a formula
abbrev pub formula_count : List (Cell × Content) → ℕ
formula_count book = count_by (λ e. has_formula (Some e.1)) book

-- the cells with a formula, in cell order
abbrev pub formula_cells : List (Cell × Content) → List Cell
formula_cells book = keys_of (filter (λ e. has_formula (Some e.1)) book)

-- whether a cell has a formula
abbrev pub is_formula : List (Cell × Content) → Cell → Bool
is_formula book cell = has_formula (content_at book cell)

-- the most cells with content
abbrev pub CELL_LIMIT : ℕ
CELL_LIMIT = 500000

-- the most cells with a formula
abbrev pub FORMULA_LIMIT : ℕ
FORMULA_LIMIT = 100000

-- whether a content at this cell would be that of one cell too many
abbrev pub exceeds_cells : List (Cell × Content) → Cell → Bool
exceeds_cells book cell = is_none (content_at book cell) && nat_le CELL_LIMIT (length book)

-- whether this content at the cell would be one formula too many; in place of a formula it is none more
abbrev pub exceeds_formulas : List (Cell × Content) → Cell → Content → Bool
exceeds_formulas book cell content = has_formula (Some content) && (not (is_formula book cell) && nat_le FORMULA_LIMIT (formula_count book))

-- why a content is refused for a limit, if it is: the limit of cells comes first
abbrev pub limit_fault : List (Cell × Content) → Cell → Content → Option SetFault
limit_fault book cell content =
    if exceeds_cells book cell then Some (faults.CellLimit content)
    else (if exceeds_formulas book cell content then Some (faults.FormulaLimit content) else None)

-- a refusal comes from a limit, or from want of memory where no limit is passed; it gives this very content back
abbrev pub IsRefusal : Option SetFault → Content → SetFault → Type 0
IsRefusal (Some limit) content fault = fault ≡ limit
IsRefusal None content fault = fault ≡ faults.Memory content

-- the cells that a content names, where it stands on the sheet home
abbrev pub content_precedents : Option Content → ℕ → List Cell
content_precedents content home = by_content (λ v. []) (λ tree. precedents tree home) content

-- the cells that the formula of a cell names
abbrev pub cell_precedents : List (Cell × Content) → Cell → List Cell
cell_precedents book cell = content_precedents (content_at book cell) cell.sheet

-- the part of a book after a cell, or all of it
abbrev pub cells_after : Option Cell → List (Cell × Content) → List (Cell × Content)
cells_after None book = book
cells_after (Some cell) book = filter (λ e. is_lt (cell_cmp cell e.0)) book

-- the first cell of a part of a book
abbrev pub first_cell : List (Cell × Content) → Option Cell
first_cell [] = None
first_cell (e ∷ es) = Some e.0

-- the least cell with content among those greater than after, or among all
abbrev pub next_cell : List (Cell × Content) → Option Cell → Option Cell
next_cell book after = first_cell (cells_after after book)

-- the part of a book from a cell on
abbrev pub cells_from : Cell → List (Cell × Content) → List (Cell × Content)
cells_from from book = filter (λ e. is_le (cell_cmp from e.0)) book
