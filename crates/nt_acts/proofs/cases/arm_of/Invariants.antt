use Rattle.std.proofs.Common.{◌≤◌}
use Rattle.nt_values.specs.Typed.{world_in}
use Rattle.nt_acts.proofs.Chosen.{Arms}
use Rattle.nt_acts.proofs.cases.arm_of.Given as goal

abbrev pub invariant-loop-at : goal.invariant-loop-at
invariant-loop-at g l =
    record {
      fewer : l.turns ≤ l.left;
      so_far : Arms (g.C.Caller.calls l.caller) (world_in l.world) l.test l.arms l.locals l.left l.at l.turns;
    }
