use Rattle.desk_run.proofs.Acting.{bad_refuses}
use Rattle.desk_run.proofs.answering.answer_line.Goals as goal

pub returns-in-Err-clause-refused : goal.returns-in-Err-clause-refused
returns-in-Err-clause-refused g c =
    bad_refuses g.D.Desk.answer _ _ c.args.out.now.items c.answer_fault.new.out.items c.answer_fault.result c.answer_fault.ensures.err c.answer_fault.ensures.memory
