use Rattle.calc_book.proofs.BeginningLoops.{copied-more}
use Rattle.calc_book.proofs.noting.copied.Goals as goal

pub loop-cell-preserved : goal.loop-cell-preserved
loop-cell-preserved c = copied-more _ _ _ _ _ _ c.in-Some.ensures.steps c.in_ok-insert.ensures.updates.0 c.loop-cell.invariant
