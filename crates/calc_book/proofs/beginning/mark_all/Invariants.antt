use Rattle.std.proofs.Common.{take}
use Rattle.calc_book.proofs.BeginningLoops.{MarksReaders}
use Rattle.calc_book.proofs.beginning.mark_all.Given as goal

-- the readers among the cells so far are marked
abbrev pub invariant-loop-cell : goal.invariant-loop-cell
invariant-loop-cell l = MarksReaders l.table l.marks (take l.cell-index l.cells)
