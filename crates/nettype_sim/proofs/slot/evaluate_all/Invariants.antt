use Rattle.nettype_sim.specs.Progress.{Evaluated}
use Rattle.nettype_sim.proofs.slot.evaluate_all.Given as goal

abbrev pub invariant-loop-assign : goal.invariant-loop-assign
invariant-loop-assign l = Evaluated l.design l.assign l.entries l.state
