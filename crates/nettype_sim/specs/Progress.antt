-- A run on its way: the entries so far, and what is left in Active.
use Rattle.std.specs.Prelude.{◌≡◌, ℕ, ◌+◌, ◌<◌, ◌≤◌, ◌^◌, List, length, slice_get, Some, replicate, true, All}
use Rattle.nt_design.specs.declared.design.Design.{Design}
use Rattle.nt_design.specs.declared.object.Net.{Net}
use Rattle.nt_machine.specs.Plain.{IsPlainState}
use Rattle.nt_semantics.specs.State.{MachineState, count_at}
use Rattle.nt_semantics.specs.StateFits.{IsStateOf, AtMost}
use Rattle.nt_semantics.specs.Execution.{Execution, run}
use Rattle.nt_semantics.specs.Step.{is_order}
use Rattle.nt_semantics.specs.Texts.{IsWritten}
use Rattle.nt_semantics.specs.declared.event.Entry.{Entry}
use Rattle.nt_semantics.specs.declared.event.Event.{Event}
use Rattle.nt_semantics.specs.declared.event.Event.TheVariants.{Stmt, Assign, Update, Resolve}

-- the entries lead from the start to this state, whatever the time limit, and it is one of a design of nets and constants
pub record LeadsTo (d : Design) (entries : List Entry) (s : MachineState) : Type 0 where
  pub execution : (until : ℕ) → Execution until d entries s
  pub written : All IsWritten entries
  pub fits : IsStateOf d s
  pub plain : IsPlainState s

-- the first a assignments have been evaluated, each later one is to be evaluated once, and each net is to be resolved at
-- least once and at most once more than assignments were evaluated
pub record Evaluated (d : Design) (a : ℕ) (entries : List Entry) (s : MachineState) : Type 0 where
  pub leads : LeadsTo d entries s
  pub done : (k : ℕ) → k < a → count_at s.evaluations k ≡ 0
  pub left : (k : ℕ) → a ≤ k → k < length d.assigns → count_at s.evaluations k ≡ 1
  pub once : (n : ℕ) → n < length d.nets → 1 ≤ count_at s.resolutions n
  pub few : (n : ℕ) → count_at s.resolutions n ≤ a + 1

-- all assignments have been evaluated, the first n nets have been resolved, and each later one is to be resolved
pub record Resolved (d : Design) (n : ℕ) (entries : List Entry) (s : MachineState) : Type 0 where
  pub leads : LeadsTo d entries s
  pub evaluated : (k : ℕ) → count_at s.evaluations k ≡ 0
  pub done : (k : ℕ) → k < n → count_at s.resolutions k ≡ 0
  pub left : (k : ℕ) → n ≤ k → k < length d.nets → 1 ≤ count_at s.resolutions k
  pub few : AtMost (2 ^ 20) s

-- the event is a resolution of this net in an order of its slots
abbrev pub CanResolve : Design → ℕ → Event → Type 0
CanResolve d n (Stmt p) = ⊥
CanResolve d n (Assign a) = ⊥
CanResolve d n Update = ⊥
CanResolve d n (Resolve m order) =
    (m ≡ n) × (net : Net) × (slice_get d.nets n ≡ Some net) × (is_order (length net.slots) order ≡ true)

-- the net was resolved so often by the event
pub record ResolvedTimes (d : Design) (n : ℕ) (event : Event) (count : ℕ) (old new : MachineState) : Type 0 where
  pub runs : (until : ℕ) → run until d (replicate count event) old ≡ Some new
  pub fits : IsStateOf d new
  pub plain : IsPlainState new
  pub evaluations : new.evaluations ≡ old.evaluations
  pub resolved : count_at new.resolutions n + count ≡ count_at old.resolutions n
  pub others : (k : ℕ) → (k ≡ n → ⊥) → count_at new.resolutions k ≡ count_at old.resolutions k
