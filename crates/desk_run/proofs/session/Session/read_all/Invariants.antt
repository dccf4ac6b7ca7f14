use Rattle.std.proofs.Common.{◌≡◌, ◌+◌, ◌-◌, ◌*◌, ◌≤◌, [], None, length}
use Rattle.host_io.specs.declared.limits.TheConstants.{MAX_INPUT}
use Rattle.host_io.specs.LineReader.{given_out_count}
use Rattle.desk_run.specs.Session.{IsBetween, place}
use Rattle.desk_run.proofs.session.Session.read_all.Given as goal

-- the lines so far were acted on
abbrev pub invariant-loop-count : goal.invariant-loop-count
invariant-loop-count g l = record {
  between : IsBetween g.D.Desk.answer
      (place l.fn.self.lines (g.D.Desk.state l.fn.desk) [] (g.I.Source.remaining l.fn.src) (g.O.Sink.written l.fn.out))
      (place l.self.lines (g.D.Desk.state l.desk) l.self.held.items (g.I.Source.remaining l.src) (g.O.Sink.written l.out));
  fault : l.self.lines.fault ≡ None;
  reads : g.I.Source.faults l.src ≡ g.I.Source.faults l.fn.src;
  writes : g.O.Sink.faults l.out ≡ g.O.Sink.faults l.fn.out;
  count : length (g.D.Desk.state l.desk).history ≡ length (g.D.Desk.state l.fn.desk).history + l.answered;
  few : l.answered ≤ 2 * given_out_count l.self.lines;
}

abbrev pub decreases-loop-count : goal.decreases-loop-count
decreases-loop-count g l = MAX_INPUT - given_out_count l.self.lines
