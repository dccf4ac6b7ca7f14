use Rattle.std.proofs.Common.{rules, ◌<◌, length}
use Rattle.book_sync.proofs.Puts.{empty-next, place-among, puts-more, puts-one}
use Rattle.book_sync.proofs.stale.empty_all.Goals as goal

pub loop-cell-preserved : goal.loop-cell-preserved
loop-cell-preserved c =
    let below : c.loop-cell.cell-index < length c.args.cells.now = search rules in
    record {
      store = puts-more _ _ _ _ c.loop-cell.invariant.store (puts-one _ _ _ _ _ c.in_ok-put.ensures.present c.in_ok-put.ensures.touched c.put.ensures.shown (place-among _ _ _ below));
      empty = empty-next _ _ _ below _ _ c.in_ok-put.ensures.present c.in_ok-put.ensures.touched c.loop-cell.invariant.empty;
    }
