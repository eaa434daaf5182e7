use Rattle.std.proofs.Common.{◌≡◌, map, take}
use Rattle.nt_design.specs.declared.process.Assign.{Assign}
use Rattle.nt_semantics.specs.State.{slot_start}
use Rattle.nt_state.proofs.starts.start_slots.Given as goal

abbrev pub invariant-loop-assign : goal.invariant-loop-assign
invariant-loop-assign l = l.values ≡ map (λ (assign : Assign). slot_start l.design assign.target) (take l.assign-index l.assign-items)
