use Rattle.std.proofs.Common.{◌≤◌, drop}
use Rattle.nt_values.proofs.Told.{Rest}
use Rattle.nt_values.specs.Typed.{world_in}
use Rattle.nt_wake.proofs.Fused.{event_value}
use Rattle.nt_wake.proofs.events.event_values.Given as goal

abbrev pub invariant-loop-event : goal.invariant-loop-event
invariant-loop-event g l =
    record {
      fewer : l.turns ≤ l.left;
      so_far : Rest (event_value (g.C.Caller.calls l.caller) (world_in l.world)) l.on l.locals l.left l.values (drop l.event-index l.on) l.turns;
    }
