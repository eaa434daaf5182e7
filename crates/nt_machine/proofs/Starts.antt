-- The start of a design of nets and constants.
use Rattle.std.proofs.Common.{◌≡◌, ℕ, zero, suc, List, [], ◌∷◌, map, get_or, Some, slice_get, if◌then◌else◌, false, not, length, replicate, refl, ◌∙◌, ap, sym}
use Rattle.nt_value.specs.Values.{default_value}
use Rattle.nt_design.specs.Parts.{Value}
use Rattle.nt_design.specs.declared.design.Design.{Design}
use Rattle.nt_design.specs.declared.object.Net.{Net}
use Rattle.nt_design.specs.declared.object.Var.{Var}
use Rattle.nt_design.specs.declared.object.NetKind.TheVariants.{Unresolved}
use Rattle.nt_design.specs.declared.process.Assign.{Assign}
use Rattle.nt_design.specs.declared.process.Proc.{Proc}
use Rattle.nt_design.specs.declared.target.Target.{Target}
use Rattle.nt_design.specs.declared.target.Target.TheVariants as target
use Rattle.nt_semantics.specs.State.{is_comb, start_work, start_state, start_nets, slot_start, net_start, net_shape, value_at}
use Rattle.nt_semantics.specs.declared.standing.Standing.TheVariants.{Unbegun, Ready}
use Rattle.nt_design.specs.Plain.{IsPlain, IsConstantDriver, IsWholeSlot, net_of}
use Rattle.nt_machine.specs.Plain.{IsPlainState}

default_nets : (nets : List Net) → ((n : ℕ) (net : Net) → slice_get nets n ≡ Some net → net.kind ≡ Unresolved) → map (λ (net : Net). net_start net.kind net.shape) nets ≡ map (λ (net : Net). default_value net.shape) nets
default_nets [] h = refl
default_nets (x ∷ xs) h =
    let first : net_start x.kind x.shape ≡ default_value x.shape = ap (λ k. net_start k x.shape) (h 0 x refl) in
    let rest = default_nets xs (λ n net at. h (suc n) net at) in
    λ i. first i ∷ rest i

-- each net begins with the default of its leaves
pub nets_start : (d : Design) → IsPlain d → start_nets d ≡ map (λ (net : Net). default_value net.shape) d.nets
nets_start d plain = default_nets d.nets plain.nets

default_at : (nets : List Net) (n : ℕ) → get_or (map (λ (net : Net). default_value net.shape) nets) n [] ≡ default_value (get_or (map (λ (net : Net). net.shape) nets) n [])
default_at [] n = refl
default_at (x ∷ xs) zero = refl
default_at (x ∷ xs) (suc n) = default_at xs n

slot_begins : (d : Design) (t : Target) → IsPlain d → IsWholeSlot t → slot_start d t ≡ default_value (net_shape d (net_of t))
slot_begins d (target.Slot n slot low width) plain whole =
    ap (λ nets. value_at nets n) (nets_start d plain) ∙ default_at d.nets n
slot_begins d (target.Var v path) plain whole = absurd whole
slot_begins d (target.Local i path) plain whole = absurd whole

default_slots : (d : Design) (assigns : List Assign) → IsPlain d → ((a : ℕ) (assign : Assign) → slice_get assigns a ≡ Some assign → IsConstantDriver assign) → map (λ (assign : Assign). slot_start d assign.target) assigns ≡ map (λ (assign : Assign). default_value (net_shape d (net_of assign.target))) assigns
default_slots d [] plain h = refl
default_slots d (x ∷ xs) plain h =
    let first = slot_begins d x.target plain (h 0 x refl).whole in
    let rest = default_slots d xs plain (λ a assign at. h (suc a) assign at) in
    λ i. first i ∷ rest i

-- and so does each slot
pub slots_start : (d : Design) → IsPlain d → map (λ (assign : Assign). slot_start d assign.target) d.assigns ≡ map (λ (assign : Assign). default_value (net_shape d (net_of assign.target))) d.assigns
slots_start d plain = default_slots d d.assigns plain plain.assigns

-- nothing else is there
pub start_still : (d : Design) → IsPlain d → IsPlainState (start_state d)
start_still d plain = record {
  standings = ap (λ procs. map (λ (p : Proc). if is_comb p.kind then Unbegun else Ready) procs) plain.procs;
  work = ap (λ procs. map (λ (p : Proc). start_work p.kind p) procs) plain.procs;
  nonblocking = refl;
  moved = refl;
  shown = refl;
  finished = refl;
}

-- the start state in columns
pub start_is : (d : Design) → IsPlain d → (vars nets slots : List Value) (evaluations resolutions : List ℕ) → vars ≡ [] → nets ≡ map (λ (net : Net). default_value net.shape) d.nets → slots ≡ map (λ (assign : Assign). default_value (net_shape d (net_of assign.target))) d.assigns → evaluations ≡ replicate (length d.assigns) 1 → resolutions ≡ replicate (length d.nets) 1 → record { moment = 0; vars = vars; nets = nets; slots = slots; standings = []; work = []; locals = []; fresh = []; evaluations = evaluations; resolutions = resolutions; nonblocking = []; moved = []; shown = []; finished = false } ≡ start_state d
start_is d plain vars nets slots evaluations resolutions no_vars nets_are slots_are evaluations_are resolutions_are =
    λ i. record {
      moment = 0;
      vars = vars_are i;
      nets = (nets_are ∙ sym (nets_start d plain)) i;
      slots = (slots_are ∙ sym (slots_start d plain)) i;
      standings = places_are i;
      work = items_are i;
      locals = locals_are i;
      fresh = fresh_are i;
      evaluations = evaluations_are i;
      resolutions = resolutions_are i;
      nonblocking = [];
      moved = [];
      shown = [];
      finished = false;
    }
  where
    vars_are : vars ≡ (start_state d).vars
    vars_are = no_vars ∙ sym (ap (λ xs. map (λ (var : Var). var.start) xs) plain.vars)

    places_are : [] ≡ (start_state d).standings
    places_are = sym (ap (λ procs. map (λ (p : Proc). if is_comb p.kind then Unbegun else Ready) procs) plain.procs)

    items_are : [] ≡ (start_state d).work
    items_are = sym (ap (λ procs. map (λ (p : Proc). start_work p.kind p) procs) plain.procs)

    locals_are : [] ≡ (start_state d).locals
    locals_are = sym (ap (λ procs. map (λ (p : Proc). map default_value p.locals) procs) plain.procs)

    fresh_are : [] ≡ (start_state d).fresh
    fresh_are = sym (ap (λ procs. map (λ (p : Proc). not (is_comb p.kind)) procs) plain.procs)
