use Rattle.std.proofs.Common.{rules}
use Rattle.desk_run.specs.Session.{IsStopped, place}
use Rattle.desk_run.proofs.TurnAnswers.{unwritten_stops}
use Rattle.desk_run.proofs.Turns.{between-written}
use Rattle.desk_run.proofs.session.Session.turn.Goals as goal

pub returns-clause-next : goal.returns-clause-next
returns-clause-next g c start had =
    c.take_line.ensures.next start (g.O.Sink.written c.hand_over_due.new.out)
    (between-written g.D.Desk.answer start c.args.self.now.lines c.hand_over_due.new.self.lines (g.D.Desk.state c.args.desk.now) c.args.self.now.held.items c.hand_over_due.new.self.held.items (g.I.Source.remaining c.args.src.now) (g.O.Sink.written c.args.out.now) (g.O.Sink.written c.hand_over_due.new.out)
    c.hand_over_due.ensures.lines had (λ before text is. c.in_ok-hand_over_due.ensures.text before text is))

pub returns-in_err-hand_over_due-clause-stopped :
    goal.returns-in_err-hand_over_due-clause-stopped
returns-in_err-hand_over_due-clause-stopped g c start had =
    let stopped : IsStopped g.D.Desk.answer start (place c.hand_over_due.new.self.lines (g.D.Desk.state c.args.desk.now) c.hand_over_due.new.self.held.items (g.I.Source.remaining c.args.src.now) (g.O.Sink.written c.hand_over_due.new.out)) c.in_err-hand_over_due.field-0.0
    = unwritten_stops g.D.Desk.answer start c.args.self.now.lines c.hand_over_due.new.self.lines (g.D.Desk.state c.args.desk.now) c.args.self.now.held.items c.hand_over_due.new.self.held.items (g.I.Source.remaining c.args.src.now) (g.O.Sink.written c.args.out.now) (g.O.Sink.written c.hand_over_due.new.out)
    _ c.hand_over_due.ensures.lines had c.in_err-hand_over_due.ensures.failed.0 c.in_err-hand_over_due.ensures.held c.in_err-hand_over_due.ensures.prefix in
    search rules
