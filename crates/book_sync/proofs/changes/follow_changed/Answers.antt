use Rattle.book_sync.proofs.Puts.{first-left, follows-still, puts-more, puts-within, rest-left, steps-next}
use Rattle.book_sync.proofs.changes.follow_changed.Goals as goal

pub loop-cell-preserved : goal.loop-cell-preserved
loop-cell-preserved c =
    let here = first-left _ _ _ _ c.in-Some.ensures.steps c.loop-cell.invariant.left in
    record {
      follows = follows-still _ _ _ _ _ here c.follow_cell.ensures.table c.loop-cell.invariant.follows;
      store = puts-more _ _ _ _ c.loop-cell.invariant.store (puts-within _ _ _ _ here c.follow_cell.ensures.store);
      left = rest-left _ _ _ _ c.in-Some.ensures.steps c.loop-cell.invariant.left;
      steps = steps-next _ _ _ _ _ _ _ _ _ c.in-Some.ensures.steps c.follow_cell.ensures.table c.follow_cell.ensures.store c.in_ok-follow_cell.ensures.step c.loop-cell.invariant.steps;
    }
