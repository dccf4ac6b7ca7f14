use Rattle.std.proofs.Common.{[], arith, refl, rules}
use Rattle.desk_run.specs.Session.{IsStopped, place}
use Rattle.desk_run.proofs.Runs.{between-start}
use Rattle.desk_run.proofs.session.Session.read_all.Goals as goal

pub loop-count-init : goal.loop-count-init
loop-count-init g c = record {
  between = between-start g.D.Desk.answer c.args.self.now.lines (g.D.Desk.state c.args.desk.now) c.args.self.now.held.items (g.I.Source.remaining c.args.src.now) (g.O.Sink.written c.args.out.now) c.requires.new c.requires.none;
  fault = search rules;
  reads = refl;
  writes = refl;
  count = omega arith;
  few = omega arith;
}

pub returns-in_err-count-clause-stopped : goal.returns-in_err-count-clause-stopped
returns-in_err-count-clause-stopped g c =
    let stopped : IsStopped g.D.Desk.answer (place c.args.self.now.lines (g.D.Desk.state c.args.desk.now) [] (g.I.Source.remaining c.args.src.now) (g.O.Sink.written c.args.out.now)) (place c.turn.new.self.lines (g.D.Desk.state c.turn.new.desk) c.turn.new.self.held.items (g.I.Source.remaining c.turn.new.src) (g.O.Sink.written c.turn.new.out)) c.in_err-count.field-0.0
    = c.in_err-count.ensures.stopped _ c.loop-count.invariant.between in
    search rules
