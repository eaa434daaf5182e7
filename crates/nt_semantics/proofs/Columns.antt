-- What stands in the columns of a state at the number of a net or of an assignment.
use Rattle.std.proofs.Common.{◌≡◌, ℕ, [], get_or, map, Some, slice_get, option_map, ◌∙◌, ap, subst}
use Rattle.std.proofs.lemmas.Option.{slice_get-map, get_or_from_slice_get}
use Rattle.nt_value.specs.Values.{IsValueOf}
use Rattle.nt_design.proofs.Does.{value_there}
use Rattle.nt_design.specs.WellFormed.{IsSlotOf, net_shapes}
use Rattle.nt_design.specs.declared.design.Design.{Design}
use Rattle.nt_design.specs.declared.object.Net.{Net}
use Rattle.nt_design.specs.declared.process.Assign.{Assign}
use Rattle.nt_design.specs.declared.target.Target.{Target}
use Rattle.nt_design.specs.declared.target.Target.TheVariants as target
use Rattle.nt_semantics.specs.State.{MachineState, net_shape}
use Rattle.nt_semantics.specs.StateFits.{IsStateOf, driver_shape}

pub net_shape_there : (d : Design) (n : ℕ) (net : Net) → slice_get d.nets n ≡ Some net → net_shape d n ≡ net.shape
net_shape_there d n net here =
    get_or_from_slice_get (net_shapes d) n net.shape [] (slice_get-map (λ (net : Net). net.shape) d.nets n ∙ ap (option_map (λ (net : Net). net.shape)) here)

pub driver_shape_there : (d : Design) (a : ℕ) (assign : Assign) → slice_get d.assigns a ≡ Some assign → get_or (map (λ (assign : Assign). driver_shape d assign.target) d.assigns) a [] ≡ driver_shape d assign.target
driver_shape_there d a assign here =
    get_or_from_slice_get (map (λ (assign : Assign). driver_shape d assign.target) d.assigns) a (driver_shape d assign.target) [] (slice_get-map (λ (assign : Assign). driver_shape d assign.target) d.assigns a ∙ ap (option_map (λ (assign : Assign). driver_shape d assign.target)) here)

-- the shape of an assignment's slot in a state
pub slot_has : (d : Design) (s : MachineState) (a : ℕ) (assign : Assign) → IsStateOf d s → slice_get d.assigns a ≡ Some assign → IsValueOf (driver_shape d assign.target) (get_or s.slots a [])
slot_has d s a assign of here =
    subst (λ r. IsValueOf r (get_or s.slots a [])) (driver_shape_there d a assign here)
    (value_there (map (λ (assign : Assign). driver_shape d assign.target) d.assigns) s.slots a of.slots)

-- the slot of a driver has the leaves of the net that lists it
pub slot_of_net : (d : Design) (n slot : ℕ) (t : Target) → IsSlotOf n slot t → driver_shape d t ≡ net_shape d n
slot_of_net d n slot (target.Slot m k low width) is = ap (net_shape d) is.0
slot_of_net d n slot (target.Var v path) is = absurd is
slot_of_net d n slot (target.Local i path) is = absurd is
