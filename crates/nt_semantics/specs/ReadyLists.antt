-- When ready lists are right: each process that has an event in Active stands on its list (this project's own).
use Rattle.std.specs.Prelude.{◌≡◌, ◌↔◌, ◌⊎◌, ⊤, ℕ, ◌+◌, ◌<◌, ◌≤◌, ◌==◌, nat_lt, Bool, true, false, ◌&&◌, if◌then◌else◌, List, [], ◌∷◌, length, Contains, IsSome}
use Rattle.nt_design.specs.declared.design.Design.{Design}
use Rattle.nt_semantics.specs.Groups.{processes, is_among, is_same_process}
use Rattle.nt_semantics.specs.Rounds.{Away, RoundState, RoundEnd, procs_at, combs as all_combs, is_ready, is_waiting}
use Rattle.nt_semantics.specs.State.{MachineState, standing_at, count_at}
use Rattle.nt_semantics.specs.declared.standing.Standing.{Standing}
use Rattle.nt_semantics.specs.declared.standing.Standing.TheVariants.{Unbegun, Ready, Inactive, Later, Waits}
use Rattle.nt_semantics.specs.StateFits.{IsStateOf}
use Rattle.nt_semantics.specs.Step.{may_begin}
use Rattle.nt_semantics.specs.declared.event.Event.{Event}
use Rattle.nt_semantics.specs.declared.event.Event.TheVariants.{Stmt, Assign as AssignEvent, Update, Resolve}
use Rattle.nt_semantics.specs.declared.process.Process.{Process}
use Rattle.nt_semantics.specs.declared.process.Process.TheVariants.{Procedure, Assignment}

-- ready, or waiting for a change
abbrev pub is_live : Standing → Bool
is_live Ready = true
is_live (Waits kept) = true
is_live _ = false

-- where a procedure stands after an event of another: where it stood, or it waited, and is ready or waits on
abbrev pub StandsOn : Standing → Standing → Type 0
StandsOn before after = (after ≡ before) ⊎ ((is_waiting before ≡ true) × (is_live after ≡ true))

-- the event is a step of another procedure, or of none
abbrev pub IsOther : ℕ → Event → Type 0
IsOther p (Stmt q) = q ≡ p → ⊥
IsOther p (AssignEvent a) = ⊤
IsOther p Update = ⊤
IsOther p (Resolve n order) = ⊤

-- each process that is ready stands on this list
abbrev pub Listed : Design → MachineState → List Process → Type 0
Listed d s xs = (x : Process) → is_among (processes d) x ≡ true → is_ready s x ≡ true → is_among xs x ≡ true

-- the one ready list of one group is right
abbrev pub OneListed : Design → MachineState → List (List Process) → Type 0
OneListed d s ready = (xs : List Process) × (ready ≡ xs ∷ []) × Listed d s xs

-- how many items of a list pass a test
abbrev pub one_if : Bool → ℕ
one_if true = 1
one_if false = 0

abbrev pub times : {A : Type 0} → (A → Bool) → List A → ℕ
times is [] = 0
times is (x ∷ xs) = if is x then 1 + times is xs else times is xs

-- a process that a ready list has to hold: it has an event in Active, where an `always_comb` before its first step counts
-- once it was put on the list
abbrev pub stands_listed : Bool → Standing → Bool
stands_listed begins Unbegun = begins
stands_listed begins Ready = true
stands_listed begins _ = false

abbrev pub is_held : Bool → MachineState → Process → Bool
is_held begins s (Procedure p) = stands_listed begins (standing_at s p)
is_held begins s (Assignment a) = nat_lt 0 (count_at s.evaluations a)

-- the list holds just these processes, each once
abbrev pub Holds : Bool → MachineState → List Process → Type 0
Holds begins s xs = (x : Process) → times (is_same_process x) xs ≡ one_if (is_held begins s x)

-- each procedure before its first step stands on this list
abbrev pub UnbegunListed : MachineState → List Process → Type 0
UnbegunListed s xs = (p : ℕ) → standing_at s p ≡ Unbegun → is_among xs (Procedure p) ≡ true

-- each procedure of this list is before its first step
abbrev pub AllUnbegun : MachineState → List Process → Type 0
AllUnbegun s xs = (p : ℕ) → is_among xs (Procedure p) ≡ true → standing_at s p ≡ Unbegun

-- `always_comb` were put on their list: they may begin, and a round was made
abbrev pub has_begun : RoundState → Bool
has_begun r = r.begun && may_begin r.state

-- Between rounds with one group, from the start on: the ready list holds just the processes with an event in Active, each
-- once; procedures before their first step are `always_comb`, and all of those until they are put on the list; no update is on
-- its way; and the state is one of the design.
pub record RoundFits (d : Design) (r : RoundState) : Type 0 where
  pub list : List Process
  pub is_list : r.ready ≡ list ∷ []
  pub holds : Holds (has_begun r) r.state list
  pub waiting : has_begun r ≡ false → AllUnbegun r.state (all_combs d)
  pub unbegun : UnbegunListed r.state (all_combs d)
  pub moved : r.state.moved ≡ []
  pub fits : IsStateOf d r.state

-- the procedures that were put away are those in Inactive, and those in the slots of later moments, each on its list and there
-- once
pub record Tied (s : MachineState) (away : Away) : Type 0 where
  pub inactive : (p : ℕ) → Contains away.inactive p ↔ (standing_at s p ≡ Inactive)
  pub later : (at p : ℕ) → Contains (procs_at at away.later) p ↔ (standing_at s p ≡ Later at)
  pub inactive_once : (p : ℕ) → times (λ q. p == q) away.inactive ≤ 1
  pub later_once : (at p : ℕ) → times (λ q. p == q) (procs_at at away.later) ≤ 1

-- an entry, or an event that is too long
abbrev pub Shows : RoundEnd → Type 0
Shows e = (0 < length e.entries) ⊎ IsSome e.too_long
