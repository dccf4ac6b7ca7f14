use Rattle.std.proofs.Common.{length}
use Rattle.workbook.specs.Book.{cells_after}
use Rattle.book_sync.proofs.Remaking.{FollowsSoFar}
use Rattle.book_sync.proofs.anew.table_of.Given as goal

-- the cells that aren't left are in the table
abbrev pub invariant-loop-cell : goal.invariant-loop-cell
invariant-loop-cell l = FollowsSoFar l.book.contents l.after l.table

abbrev pub decreases-loop-cell : goal.decreases-loop-cell
decreases-loop-cell l = length (cells_after l.after l.book.contents)
