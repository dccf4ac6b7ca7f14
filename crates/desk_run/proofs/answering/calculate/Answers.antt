use Rattle.std.proofs.Common.{[], ◌∷◌, rules}
use Rattle.workbook.specs.declared.commands.Command.TheVariants as commands
use Rattle.desk_run.specs.Session.{HasRefused}
use Rattle.desk_run.proofs.Acting.{acts-both, refuses-either, refuses-longer}
use Rattle.desk_run.proofs.answering.calculate.Goals as goal

pub returns-in_err-act-clause-refused : goal.returns-in_err-act-clause-refused
returns-in_err-act-clause-refused g c =
    let longer : HasRefused g.D.Desk.answer (commands.Begin c.args.kind ∷ commands.Settle ∷ []) (g.D.Desk.state c.args.desk.now) (g.D.Desk.state c.act.new.desk) c.args.out.now.items c.act.new.out.items c.in_err-act.field-0.0
    = refuses-longer g.D.Desk.answer (commands.Begin c.args.kind ∷ []) (commands.Settle ∷ []) _ _ _ _ _ c.in_err-act.ensures.refused in
    search rules

pub returns-clause-acted : goal.returns-clause-acted
returns-clause-acted g c =
    acts-both g.D.Desk.answer (commands.Begin c.args.kind ∷ []) (commands.Settle ∷ []) _ _ _ _ _ _ c.act-2.result c.in_ok-act.ensures.acted c.act-2.ensures.acted

pub returns-clause-refused : goal.returns-clause-refused
returns-clause-refused g c =
    refuses-either g.D.Desk.answer (commands.Begin c.args.kind ∷ []) (commands.Settle ∷ []) _ _ _ _ _ _ c.act-2.result c.in_ok-act.ensures.acted c.act-2.ensures.refused
