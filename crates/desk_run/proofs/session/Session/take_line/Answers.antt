use Rattle.std.proofs.Common.{◌≡◌, true, ap, refl, subst, sym, ◌∙◌, Err}
use Rattle.desk_run.proofs.TurnAnswers.{answered_advances, answered_count, answered_next, answered_stopped, caused_by_line, caused_by_reader, faulted, goes_on, line_without_fault, not_ended}
use Rattle.desk_run.proofs.session.Session.take_line.Goals as goal

pub returns-in-Ok-clause-next : goal.returns-in-Ok-clause-next
returns-in-Ok-clause-next g c start written had =
    let moved = c.in-Ok.ensures.moved in
    answered_next g.D.Desk.answer start c.args.self.now.lines c.next.new.self c.answer.new.self.lines
    (g.D.Desk.state c.args.desk.now) (g.D.Desk.state c.answer.new.desk) c.args.self.now.held.items c.answer.new.self.held.items
    (g.I.Source.remaining c.args.src.now) (g.I.Source.remaining c.next.new.src) written c.in-Ok.line moved.0 c.answer.result c.answer.ensures.lines had
    (λ text. not_ended c.args.self.now.lines.ended c.next.result (λ e. (c.next.ensures.done c.requires.fault e).0) (subst (λ r. goes_on r ≡ true) (sym c.in-Ok.is) text))
    moved.1 moved.2 c.next.ensures.ended c.next.ensures.empty c.in-Ok.ensures.told c.next.ensures.within c.answer.ensures.said c.answer.ensures.count c.answer.ensures.end

pub returns-in-Ok-clause-stopped : goal.returns-in-Ok-clause-stopped
returns-in-Ok-clause-stopped g c start written had =
    let moved = c.in-Ok.ensures.moved in
    answered_stopped g.D.Desk.answer start c.args.self.now.lines c.next.new.self c.answer.new.self.lines
    (g.D.Desk.state c.args.desk.now) (g.D.Desk.state c.answer.new.desk) c.args.self.now.held.items c.answer.new.self.held.items
    (g.I.Source.remaining c.args.src.now) (g.I.Source.remaining c.next.new.src) written c.in-Ok.line moved.0 c.answer.result c.answer.ensures.lines had
    (λ text. not_ended c.args.self.now.lines.ended c.next.result (λ e. (c.next.ensures.done c.requires.fault e).0) (subst (λ r. goes_on r ≡ true) (sym c.in-Ok.is) text))
    moved.1 moved.2 c.next.ensures.ended c.next.ensures.empty c.answer.ensures.refused c.answer.ensures.refusal c.answer.ensures.end

pub returns-in-Ok-clause-count : goal.returns-in-Ok-clause-count
returns-in-Ok-clause-count g c =
    let moved = c.in-Ok.ensures.moved in
    answered_count g.D.Desk.answer c.next.new.self (g.D.Desk.state c.args.desk.now) (g.D.Desk.state c.answer.new.desk) c.args.self.now.held.items c.answer.new.self.held.items
    c.in-Ok.line moved.0 c.answer.result moved.1 c.answer.ensures.said c.answer.ensures.count c.answer.ensures.end

pub returns-in-Ok-clause-caused : goal.returns-in-Ok-clause-caused
returns-in-Ok-clause-caused g c =
    caused_by_line c.answer.result _ _ (line_without_fault c.in-Ok.line _ c.in-Ok.ensures.steady) c.answer.ensures.refusal

pub returns-in-Ok-clause-advances : goal.returns-in-Ok-clause-advances
returns-in-Ok-clause-advances g c =
    answered_advances c.args.self.now.lines c.next.new.self c.answer.new.self.lines (g.D.Desk.state c.args.desk.now) (g.D.Desk.state c.answer.new.desk) c.args.self.now.held.items c.answer.new.self.held.items
    c.in-Ok.line c.answer.result c.answer.ensures.lines c.in-Ok.ensures.advances c.answer.ensures.end

pub returns-in-Err-clause-stopped : goal.returns-in-Err-clause-stopped
returns-in-Err-clause-stopped g c start written had =
    let going = not_ended c.args.self.now.lines.ended c.next.result (λ e. (c.next.ensures.done c.requires.fault e).0) (subst (λ r. goes_on r ≡ true) (sym c.in-Err.is) refl) in
    faulted g.D.Desk.answer start c.args.self.now.lines c.next.new.self (g.D.Desk.state c.args.desk.now) c.args.self.now.held.items
    (g.I.Source.remaining c.args.src.now) (g.I.Source.remaining c.next.new.src) written c.in-Err.fault c.stop_at.result had going c.stop_at.ensures
    (c.in-Err.ensures.left c.requires.fault) (λ e. c.next.ensures.limit c.requires.fault (c.in-Err.is ∙ ap Err e)) c.requires.given (c.in-Err.ensures.at_hand c.requires.fault)

pub returns-in-Err-clause-caused : goal.returns-in-Err-clause-caused
returns-in-Err-clause-caused g c =
    caused_by_reader c.in-Err.fault c.stop_at.result _ _ c.stop_at.ensures c.in-Err.ensures.steady (c.in-Err.ensures.read c.requires.fault)
