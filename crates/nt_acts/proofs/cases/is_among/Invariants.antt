use Rattle.std.proofs.Common.{◌≤◌}
use Rattle.nt_design.specs.Expressions.{value_of}
use Rattle.nt_values.specs.Typed.{world_in}
use Rattle.nt_acts.proofs.Chosen.{Among}
use Rattle.nt_acts.proofs.cases.is_among.Given as goal

abbrev pub invariant-loop-item : goal.invariant-loop-item
invariant-loop-item g l =
    record {
      fewer : l.turns ≤ l.left;
      so_far : Among (value_of (g.C.Caller.calls l.caller) (world_in l.world)) l.test l.items l.locals l.left l.item-index l.turns;
    }
