use Rattle.std.proofs.Common.{◌≡◌, ◌||◌}
use Rattle.cell_refs.specs.declared.grid.Cell.{Cell}
use Rattle.cell_refs.specs.Cell.{is_among}
use Rattle.calc_book.proofs.noting.copied.Given as goal

-- each cell is copied or left
abbrev pub invariant-loop-cell : goal.invariant-loop-cell
invariant-loop-cell l = (q : Cell) → is_among l.cells.keys q ≡ (is_among l.all.keys q || is_among l.cell-iterator q)
