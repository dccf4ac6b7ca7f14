-- What a host keeps beside its book, in step with the book but for the changed cells.
use Rattle.std.specs.Prelude.{◌≡◌, ◌⊎◌, true, false, Option, None, Some, List}
use Rattle.std.specs.Map.{lookup}
use Rattle.cell_refs.specs.declared.areas.Area.{Area}
use Rattle.cell_refs.specs.declared.grid.Cell.{Cell}
use Rattle.cell_refs.specs.Cell.{is_among, same_cell}
use Rattle.cell_refs.specs.Reaching.{Reaches}
use Rattle.cell_store.specs.Store.{StoreState, present_at, shown_at}
use Rattle.cell_values.specs.declared.values.Value.{Value}
use Rattle.formula_parse.specs.Tree.{areas_named}
use Rattle.workbook.specs.declared.contents.Content.{Content}
use Rattle.workbook.specs.Book.{by_content, cell_precedents, content_at}

-- the areas that the formula of a cell names; None of a cell without a formula
abbrev pub formula_areas : List (Cell × Content) → Cell → Option (List Area)
formula_areas book cell =
    by_content (λ v. None) (λ tree. Some (areas_named tree cell.sheet)) (content_at book cell)

-- what is present at a cell by its content alone: a constant's value, no value yet of a formula, nothing without content
abbrev pub present_by_content : Option Content → Option (Option Value)
present_by_content None = None
present_by_content (Some content) = Some (by_content Some (λ tree. None) (Some content))

-- off the changed cells the table has of each cell the areas that its formula names, and no reader without a formula
abbrev pub TableFollows : List (Cell × Content) → List Cell → List (Cell × List Area) → Type 0
TableFollows book changed table = (cell : Cell) → is_among changed cell ≡ false
    → lookup (same_cell cell) table ≡ formula_areas book cell

-- at each changed cell is present what its content says
abbrev pub FollowsChanged : List (Cell × Content) → List Cell → StoreState → Type 0
FollowsChanged book changed store = (cell : Cell) → is_among changed cell ≡ true
    → present_at store cell ≡ present_by_content (content_at book cell)

-- each cell has present what the sheet shows of it, or a changed cell is reached from it along the cells that formulas name
abbrev pub ShowsWhereClean : List (Cell × Content) → List Cell → StoreState → Type 0
ShowsWhereClean book changed store = (cell : Cell) → (present_at store cell ≡ shown_at store cell)
    ⊎ Reaches (cell_precedents book) changed cell
