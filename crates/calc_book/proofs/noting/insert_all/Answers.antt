use Rattle.std.proofs.Common.{rules, ◌<◌, length}
use Rattle.calc_book.proofs.BeginningLoops.{inserted-more}
use Rattle.calc_book.proofs.NotingLaws.{others-kept}
use Rattle.calc_book.proofs.noting.insert_all.Goals as goal

pub loop-cell-preserved : goal.loop-cell-preserved
loop-cell-preserved c =
    let below : c.loop-cell.cell-index < length c.args.cells.now = search rules in
    inserted-more _ _ _ _ _ _ below c.in_ok-insert.ensures.updates.0 c.loop-cell.invariant

pub returns-in_err-insert-clause-others : goal.returns-in_err-insert-clause-others
returns-in_err-insert-clause-others c =
    others-kept c.args.all.now.keys c.loop-cell.all.keys c.insert.new.self.keys c.args.cells.now c.loop-cell.cell-index c.loop-cell.invariant c.in_err-insert.ensures.err
