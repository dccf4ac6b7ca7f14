use Rattle.std.proofs.Common.{List}
use Rattle.cell_refs.specs.declared.grid.Cell.{Cell}
use Rattle.book_sync.proofs.Marking.{MarksSoFar}
use Rattle.book_sync.proofs.stale.mark_all.Given as goal

-- the readers from which a cell so far is reached are marked
abbrev pub invariant-loop-cell : goal.invariant-loop-cell
invariant-loop-cell l = (done : List Cell) × MarksSoFar l.table l.cells.keys l.cell-iterator l.marks done
