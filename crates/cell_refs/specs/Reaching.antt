-- Reaching a cell along the cells that cells name.
use Rattle.std.specs.Prelude.{◌≡◌, ℕ, zero, suc, Bool, true, ◌||◌, List}
use Rattle.std.specs.List.{list_any}
use Rattle.cell_refs.specs.declared.grid.Cell.{Cell}
use Rattle.cell_refs.specs.Cell.{is_among}

-- whether one of the targets is reached from the cell in at most this many steps, each from a cell to one that it names
abbrev pub reaches : (Cell → List Cell) → List Cell → ℕ → Cell → Bool
reaches names targets zero cell = is_among targets cell
reaches names targets (suc steps) cell =
    is_among targets cell || list_any (reaches names targets steps) (names cell)

-- one of the targets is reached from the cell
abbrev pub Reaches : (Cell → List Cell) → List Cell → Cell → Type 0
Reaches names targets cell = (steps : ℕ) × (reaches names targets steps cell ≡ true)
