use Rattle.nettype_sim.specs.Progress.{Resolved}
use Rattle.nettype_sim.proofs.slot.resolve_all.Given as goal

abbrev pub invariant-loop-net : goal.invariant-loop-net
invariant-loop-net l = Resolved l.design l.net l.entries l.state
