use Rattle.std.proofs.Common.{◌≡◌, take}
use Rattle.nt_design.proofs.copies_of_acts.copy_events.Given as goal

abbrev pub invariant-loop-event : goal.invariant-loop-event
invariant-loop-event l = l.copies ≡ take l.event-index l.on
