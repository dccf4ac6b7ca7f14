use Rattle.std.proofs.Common.{rules, ◌<◌, length, ◌∙◌}
use Rattle.calc_book.proofs.BeginningLoops.{emptied-more}
use Rattle.calc_book.proofs.beginning.empty_all.Goals as goal

pub loop-cell-preserved : goal.loop-cell-preserved
loop-cell-preserved c =
    let below : c.loop-cell.cell-index < length c.args.cells.now = search rules in
    record {
      present = emptied-more c.args.store.now c.loop-cell.store c.empty.new.self c.args.cells.now _ _ below c.empty.ensures.present c.loop-cell.invariant.present;
      shown = λ q. c.empty.ensures.shown q ∙ c.loop-cell.invariant.shown q;
      touched = λ q. c.empty.ensures.touched q ∙ c.loop-cell.invariant.touched q;
    }
