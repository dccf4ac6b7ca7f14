use Rattle.sheet_print.proofs.Appending.{prefix-more, prefix-appended}
use Rattle.sheet_print.proofs.sheets.push_cells.Goals as goal

pub returns-in_err-push_cell-clause-kept : goal.returns-in_err-push_cell-clause-kept
returns-in_err-push_cell-clause-kept c =
    prefix-more _ _ _ c.loop-cell.out.items _ (c.args.out.now.ok.0) (c.loop-cell.out.ok.0) (prefix-appended _ _ _ _ (c.args.out.now.ok.0) c.loop-cell.invariant) c.push_cell.ensures.kept
