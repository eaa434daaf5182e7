use Rattle.std.proofs.Common.{◌-◌, ◌≤◌, length, take}
use Rattle.nt_io.specs.Sinks.{Gained}
use Rattle.nt_io.proofs.all.write_all.Given as goal

abbrev pub invariant-loop-sent : goal.invariant-loop-sent
invariant-loop-sent g l = record {
  within : l.sent ≤ length l.bytes;
  gained : Gained (g.S.Sink.meaning l.fn.sink) (g.S.Sink.meaning l.sink) (take l.sent l.bytes);
}

abbrev pub decreases-loop-sent : goal.decreases-loop-sent
decreases-loop-sent g l = length l.bytes - l.sent
