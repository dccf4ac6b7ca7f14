use Rattle.calc_book.proofs.BeginningMeans.{are-due}
use Rattle.calc_book.proofs.beginning.make_all_due.Goals as goal

pub returns-clause-due : goal.returns-clause-due
returns-clause-due c = are-due c.args.table.now c.mark_all.new.marks _ _ c.in_ok-put_waiting.ensures.waiting c.in_ok-due.ensures.cells c.in_ok-due.ensures.once
