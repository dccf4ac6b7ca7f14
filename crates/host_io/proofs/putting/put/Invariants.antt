use Rattle.std.proofs.Common.{◌≡◌, ◌-◌, ◌≤◌, length, take}
use Rattle.host_io.specs.Sink.{Appends}
use Rattle.host_io.proofs.putting.put.Given as goal

-- a prefix of the bytes was written
abbrev pub invariant-loop-written : goal.invariant-loop-written
invariant-loop-written g l = record {
  within : l.written ≤ length l.bytes;
  prefix : Appends (g.O.Sink.written l.initial.sink) (take l.written l.bytes) (g.O.Sink.written l.sink);
  steady : g.O.Sink.faults l.sink ≡ g.O.Sink.faults l.initial.sink;
}

abbrev pub decreases-loop-written : goal.decreases-loop-written
decreases-loop-written g l = length l.bytes - l.written
