use Rattle.std.proofs.Common.{Result, Some, ap, length, rules, subst, sym, ◌∙◌}
use Rattle.host_io.specs.LineReader.{IsTextOf}
use Rattle.session_script.specs.declared.faults.BadLine.{BadLine}
use Rattle.session_script.specs.declared.parsed.Parsed.{Parsed}
use Rattle.session_script.specs.Script.{line_said}
use Rattle.desk_run.specs.Output.{commands_said}
use Rattle.desk_run.specs.Session.{HasRefused, HasSaid}
use Rattle.desk_run.proofs.Acting.{bad_left, bad_says}
use Rattle.desk_run.proofs.LongLines.{too_long}
use Rattle.desk_run.proofs.session.Session.act_on.Goals as goal

pub returns-in_err-count-in-TooLong-clause-refused :
    goal.returns-in_err-count-in-TooLong-clause-refused
returns-in_err-count-in-TooLong-clause-refused g c text is =
    let left : HasRefused g.D.Desk.answer (commands_said (line_said text)) (g.D.Desk.state c.args.desk.now) (g.D.Desk.state c.args.desk.now) c.args.self.now.held.items c.answer_fault.new.out.items c.in_err-count-in-TooLong.field-0.0
    = bad_left g.D.Desk.answer _ _ _ _ _ c.in_err-count-in-TooLong.ensures.err c.in_err-count-in-TooLong.ensures.memory in
    search rules

pub returns-in_ok-count-in-TooLong-clause-said : goal.returns-in_ok-count-in-TooLong-clause-said
returns-in_ok-count-in-TooLong-clause-said g c text is =
    subst (λ (l : Result Parsed BadLine). HasSaid g.D.Desk.answer l (g.D.Desk.state c.args.desk.now) (g.D.Desk.state c.args.desk.now) c.args.self.now.held.items c.answer_fault.new.out.items)
    (sym (too_long text (subst (IsTextOf text) c.in-TooLong.is is)))
    (bad_says g.D.Desk.answer _ _ _ _ c.in_ok-count-in-TooLong.ensures.ok.1)

pub returns-in_ok-count-in-TooLong-clause-count : goal.returns-in_ok-count-in-TooLong-clause-count
returns-in_ok-count-in-TooLong-clause-count g c text is =
    ap Some
    (c.in_ok-count-in-TooLong.ensures.count
    ∙ ap (λ (l : Result Parsed BadLine). length (commands_said l)) (sym (too_long text (subst (IsTextOf text) c.in-TooLong.is is))))
