-- The start state in columns.
use Rattle.std.proofs.Common.{◌≡◌, ℕ, List, [], map, length, replicate, reverse, not}
use Rattle.std.specs.Prelude.{Bool, if◌then◌else◌, false}
use Rattle.nt_value.specs.Values.{default_value}
use Rattle.nt_design.specs.Parts.{Value}
use Rattle.nt_design.specs.declared.design.Design.{Design}
use Rattle.nt_design.specs.declared.object.Var.{Var}
use Rattle.nt_design.specs.declared.process.Assign.{Assign}
use Rattle.nt_design.specs.declared.put.Put.{Put}
use Rattle.nt_design.specs.declared.process.Proc.{Proc}
use Rattle.nt_semantics.specs.State.{MachineState, is_comb, slot_start, start_nets, start_state, start_work}
use Rattle.nt_semantics.specs.declared.standing.Standing.{Standing}
use Rattle.nt_semantics.specs.declared.standing.Standing.TheVariants.{Ready, Unbegun}
use Rattle.nt_semantics.specs.declared.work.Work.{Work}

pub started : (d : Design) (vars nets slots : List Value) (standings : List Standing) (work : List (List Work)) (locals : List (List Value)) (fresh : List Bool) (evaluations resolutions : List ℕ) (nonblocking moved : List Put) (shown : List (ℕ × List ℕ)) → vars ≡ map (λ (var : Var). var.start) d.vars → nets ≡ start_nets d → slots ≡ map (λ (assign : Assign). slot_start d assign.target) d.assigns → standings ≡ map (λ (p : Proc). if is_comb p.kind then Unbegun else Ready) d.procs → work ≡ map (λ (p : Proc). start_work p.kind p) d.procs → locals ≡ map (λ (p : Proc). map default_value p.locals) d.procs → fresh ≡ map (λ (p : Proc). not (is_comb p.kind)) d.procs → evaluations ≡ replicate (length d.assigns) 1 → resolutions ≡ replicate (length d.nets) 1 → nonblocking ≡ [] → moved ≡ [] → shown ≡ [] → ◌≡◌ {A = MachineState} (record { moment = 0; vars = vars; nets = nets; slots = slots; standings = standings; work = work; locals = locals; fresh = fresh; evaluations = evaluations; resolutions = resolutions; nonblocking = nonblocking; moved = reverse moved; shown = shown; finished = false }) (start_state d)
started d vars nets slots standings work locals fresh evaluations resolutions nonblocking moved shown a b c e f g h k l m n o =
    λ i. record {
      moment = 0;
      vars = a i;
      nets = b i;
      slots = c i;
      standings = e i;
      work = f i;
      locals = g i;
      fresh = h i;
      evaluations = k i;
      resolutions = l i;
      nonblocking = m i;
      moved = reverse (n i);
      shown = o i;
      finished = false;
    }
