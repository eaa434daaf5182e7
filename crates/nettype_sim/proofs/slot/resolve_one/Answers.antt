use Rattle.nettype_sim.proofs.Steps.{resolved_entry}
use Rattle.nettype_sim.proofs.slot.resolve_one.Goals as goal

pub returns : goal.returns
returns c =
    rw c.in_ok-push.ensures.ok (resolved_entry _ _ _ _ _ _ _ c.requires.design c.requires.within c.in_ok-event.ensures c.pending_resolutions-count.ensures c.requires.so_far c.in_ok-resolve_times.ensures)
