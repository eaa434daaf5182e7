use Rattle.std.proofs.Common.{◌≡◌, map, take}
use Rattle.nt_value.specs.Values.{default_value}
use Rattle.nt_design.specs.declared.process.Assign.{Assign}
use Rattle.nt_design.specs.Plain.{net_of}
use Rattle.nt_semantics.specs.State.{net_shape}
use Rattle.nt_machine.proofs.state.start_slots.Given as goal

abbrev pub invariant-loop-assign : goal.invariant-loop-assign
invariant-loop-assign l = l.slots ≡ map (λ (assign : Assign). default_value (net_shape l.design (net_of assign.target))) (take l.assign-index l.assign-items)
