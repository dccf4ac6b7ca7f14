use Rattle.std.proofs.Common.{[], rules}
use Rattle.desk_run.specs.Run.{HasRunPart}
use Rattle.desk_run.specs.Session.{place}
use Rattle.desk_run.proofs.Runs.{err_begun, ok_begun, ok_finished, ok_stopped}
use Rattle.desk_run.proofs.running.run_desk.Goals as goal

pub returns-in_err-hand_over-clause-begun : goal.returns-in_err-hand_over-clause-begun
returns-in_err-hand_over-clause-begun g c =
    let begun : HasRunPart g.D.Desk.answer (g.I.Source.remaining c.args.src.now) (g.D.Desk.state c.args.desk.now) (g.D.Desk.state c.read_all-answered.new.desk) (g.O.Sink.written c.args.out.now) (g.O.Sink.written c.hand_over.new.out)
    = err_begun g.D.Desk.answer
    (place c.new-session.result.lines (g.D.Desk.state c.args.desk.now) [] (g.I.Source.remaining c.args.src.now) (g.O.Sink.written c.args.out.now))
    (place c.read_all-answered.new.self.lines (g.D.Desk.state c.read_all-answered.new.desk) c.read_all-answered.new.self.held.items (g.I.Source.remaining c.read_all-answered.new.src) (g.O.Sink.written c.read_all-answered.new.out))
    (g.O.Sink.written c.hand_over.new.out) c.read_all-answered.result c.read_all-answered.ensures.finished c.read_all-answered.ensures.stopped c.in_err-hand_over.ensures.prefix in
    search rules

pub returns-clause-finished : goal.returns-clause-finished
returns-clause-finished g c =
    ok_finished g.D.Desk.answer
    (place c.new-session.result.lines (g.D.Desk.state c.args.desk.now) [] (g.I.Source.remaining c.args.src.now) (g.O.Sink.written c.args.out.now))
    (place c.read_all-answered.new.self.lines (g.D.Desk.state c.read_all-answered.new.desk) c.read_all-answered.new.self.held.items (g.I.Source.remaining c.read_all-answered.new.src) (g.O.Sink.written c.read_all-answered.new.out))
    (g.O.Sink.written c.hand_over.new.out) c.read_all-answered.result c.read_all-answered.ensures.finished c.in_ok-hand_over.ensures.all

pub returns-clause-stopped : goal.returns-clause-stopped
returns-clause-stopped g c =
    ok_stopped g.D.Desk.answer
    (place c.new-session.result.lines (g.D.Desk.state c.args.desk.now) [] (g.I.Source.remaining c.args.src.now) (g.O.Sink.written c.args.out.now))
    (place c.read_all-answered.new.self.lines (g.D.Desk.state c.read_all-answered.new.desk) c.read_all-answered.new.self.held.items (g.I.Source.remaining c.read_all-answered.new.src) (g.O.Sink.written c.read_all-answered.new.out))
    (g.O.Sink.written c.hand_over.new.out) c.read_all-answered.result c.read_all-answered.ensures.stopped c.in_ok-hand_over.ensures.all

pub returns-clause-begun : goal.returns-clause-begun
returns-clause-begun g c =
    ok_begun g.D.Desk.answer
    (place c.new-session.result.lines (g.D.Desk.state c.args.desk.now) [] (g.I.Source.remaining c.args.src.now) (g.O.Sink.written c.args.out.now))
    (place c.read_all-answered.new.self.lines (g.D.Desk.state c.read_all-answered.new.desk) c.read_all-answered.new.self.held.items (g.I.Source.remaining c.read_all-answered.new.src) (g.O.Sink.written c.read_all-answered.new.out))
    (g.O.Sink.written c.hand_over.new.out) c.read_all-answered.result c.read_all-answered.ensures.stopped c.in_ok-hand_over.ensures.all
