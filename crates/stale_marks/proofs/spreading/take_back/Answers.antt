use Rattle.std.proofs.Common.{rules}
use Rattle.stale_marks.proofs.WalkLaws.{left-next, kept-next}
use Rattle.stale_marks.proofs.spreading.take_back.Goals as goal

pub loop-cell-preserved : goal.loop-cell-preserved
loop-cell-preserved c = record {
  ordered = c.remove.ensures.ordered;
  left = left-next _ _ _ _ _ _ (search rules) c.remove.ensures.updates.0 c.loop-cell.invariant.left;
  kept = kept-next _ _ _ _ _ _ (search rules) c.remove.ensures.updates.0 c.loop-cell.invariant.kept;
}
