use Rattle.std.proofs.Common.{rules, ◌<◌, length}
use Rattle.calc_book.proofs.NotingLaws.{removed-more}
use Rattle.calc_book.proofs.noting.remove_all.Goals as goal

pub loop-cell-preserved : goal.loop-cell-preserved
loop-cell-preserved c =
    let below : c.loop-cell.cell-index < length c.args.cells.now = search rules in
    removed-more _ _ _ c.args.cells.now _ _ below c.remove.ensures.updates.0 c.loop-cell.invariant
