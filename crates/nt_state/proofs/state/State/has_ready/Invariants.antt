use Rattle.std.proofs.Common.{◌≡◌, drop}
use Rattle.std.specs.List.{list_any}
use Rattle.nt_semantics.specs.Step.{is_pending_at}
use Rattle.nt_state.proofs.state.State.has_ready.Given as goal

abbrev pub invariant-loop-standing : goal.invariant-loop-standing
invariant-loop-standing l = list_any (is_pending_at l.self) (drop l.standing-index l.standing-items) ≡ list_any (is_pending_at l.self) l.standing-items
