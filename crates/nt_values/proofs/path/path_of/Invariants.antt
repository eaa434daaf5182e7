use Rattle.std.proofs.Common.{◌≤◌, drop}
use Rattle.std.specs.Prelude.{All}
use Rattle.nt_design.specs.Statements.{step_of}
use Rattle.nt_parts.specs.Steps.{IsStep, steps_at}
use Rattle.nt_values.proofs.Told.{Rest}
use Rattle.nt_values.specs.Typed.{world_in}
use Rattle.nt_values.proofs.path.path_of.Given as goal

abbrev pub invariant-loop-pick : goal.invariant-loop-pick
invariant-loop-pick g l =
    record {
      fewer : l.turns ≤ l.left;
      may : All IsStep l.steps;
      so_far : Rest (step_of (g.C.Caller.calls l.caller) (world_in l.world)) l.path l.locals l.left (steps_at l.steps) (drop l.pick-index l.path) l.turns;
    }
