use Rattle.desk_run.proofs.Acting.{appended_acts, appended_refuses, gave_back}
use Rattle.desk_run.proofs.answering.act.Goals as goal

pub returns-in-Ok-clause-acted : goal.returns-in-Ok-clause-acted
returns-in-Ok-clause-acted g c =
    appended_acts g.D.Desk.answer c.args.command c.in-Ok.reply _ _ _ _ c.append.result c.in-Ok.ensures.room c.in-Ok.ensures.reply c.in-Ok.ensures.entry c.append.ensures.ok

pub returns-in-Ok-clause-refused : goal.returns-in-Ok-clause-refused
returns-in-Ok-clause-refused g c =
    appended_refuses g.D.Desk.answer c.args.command c.in-Ok.reply _ _ _ _ c.append.result c.in-Ok.ensures.room c.in-Ok.ensures.reply c.in-Ok.ensures.entry c.append.ensures.err c.append.ensures.memory

pub returns-in-Err-clause-refused : goal.returns-in-Err-clause-refused
returns-in-Err-clause-refused g c =
    gave_back g.D.Desk.answer c.args.command _ _ c.args.out.now.items c.in-Err.fault c.refusal_at.result c.refusal_at.ensures c.in-Err.ensures.fault.0 c.in-Err.ensures.fault.1
