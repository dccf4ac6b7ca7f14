-- For the crate's own functions: a list of cells into which one is put, or from which it is taken out.
use Rattle.std.specs.Prelude.{◌≡◌, Bool, if◌then◌else◌, List}
use Rattle.cell_refs.specs.declared.grid.Cell.{Cell}
use Rattle.cell_refs.specs.Cell.{is_among, same_cell}

-- the cell is among new exactly where this is true, and each other cell is where it is among old
abbrev pub SetsAmong : List Cell → List Cell → Cell → Bool → Type 0
SetsAmong old new cell there = (q : Cell) → is_among new q ≡ (if same_cell cell q then there else is_among old q)
