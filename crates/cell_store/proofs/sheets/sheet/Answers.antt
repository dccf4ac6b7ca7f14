use Rattle.cell_store.proofs.Listed.{behind-next, listed-next}
use Rattle.cell_store.proofs.sheets.sheet.Goals as goal

pub loop-cell-preserved : goal.loop-cell-preserved
loop-cell-preserved c = record {
  listed = listed-next c.args.present.now.entries c.loop-cell.last c.loop-cell.sheet.items _ _ _ _ _ (c.in-Some.cell.now, c.in-Some.shown.now) c.in-Some.ensures.steps c.in_ok-push_between.ensures c.in_ok-push_shown.ensures c.loop-cell.invariant.listed;
  behind = behind-next c.loop-cell.last _ _ (c.in-Some.cell.now, c.in-Some.shown.now) c.in-Some.ensures.steps c.loop-cell.invariant.behind;
}
