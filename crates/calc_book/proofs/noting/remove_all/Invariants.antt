use Rattle.std.proofs.Common.{◌≡◌, ◌&&◌, not, take}
use Rattle.cell_refs.specs.declared.grid.Cell.{Cell}
use Rattle.cell_refs.specs.Cell.{is_among}
use Rattle.calc_book.proofs.noting.remove_all.Given as goal

-- the cells so far are taken out
abbrev pub invariant-loop-cell : goal.invariant-loop-cell
invariant-loop-cell l = (q : Cell) → is_among l.all.keys q ≡ (is_among l.fn.all.keys q && not (is_among (take l.cell-index l.cells) q))
