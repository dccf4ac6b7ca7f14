use Rattle.std.proofs.Common.{◌≡◌, ◌-◌, []}
use Rattle.host_io.specs.declared.limits.TheConstants.{MAX_INPUT}
use Rattle.host_io.specs.Lines.{LacksFeed}
use Rattle.host_io.specs.LineReader.{Moves}
use Rattle.host_io.proofs.reader.seek_feed.Given as goal

-- what came is pending, and has no line feed
abbrev pub invariant-loop-buffer : goal.invariant-loop-buffer
invariant-loop-buffer g l = record {
  lacks : LacksFeed l.buffer.pending;
  moved : Moves l.initial.buffer l.buffer (g.I.Source.remaining l.initial.src) (g.I.Source.remaining l.src) [];
  steady : g.I.Source.faults l.src ≡ g.I.Source.faults l.initial.src;
}

abbrev pub decreases-loop-buffer : goal.decreases-loop-buffer
decreases-loop-buffer g l = MAX_INPUT - l.buffer.taken
