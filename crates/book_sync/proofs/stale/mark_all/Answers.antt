use Rattle.book_sync.proofs.Marking.{so_far-next, so_far-none}
use Rattle.book_sync.proofs.stale.mark_all.Goals as goal

pub loop-cell-init : goal.loop-cell-init
loop-cell-init c = so_far-none _ _ _ _ c.into_iter-cell-iterator.ensures.into_iter_gives.0 c.requires.none

pub loop-cell-preserved : goal.loop-cell-preserved
loop-cell-preserved c = so_far-next _ _ _ _ _ _ _ c.in-Some.ensures.steps c.mark.ensures.kept c.mark.ensures.only c.in-Ok.ensures.all c.in-Ok.ensures.closed c.loop-cell.invariant
