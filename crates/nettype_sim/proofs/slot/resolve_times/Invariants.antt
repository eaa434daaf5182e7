use Rattle.nettype_sim.specs.Progress.{ResolvedTimes}
use Rattle.nettype_sim.proofs.slot.resolve_times.Given as goal

abbrev pub invariant-loop-turn : goal.invariant-loop-turn
invariant-loop-turn l = ResolvedTimes l.design l.net l.event l.turn l.fn.state l.state
