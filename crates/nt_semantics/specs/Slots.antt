-- Events of one slot, each after the move within the slot that it needs, and what a run has reached in which moves are made
-- when they are due (IEEE 1800-2017, 4.4, 4.5).
use Rattle.std.specs.Prelude.{◌≡◌, ◌⊎◌, ◌≤◌, ◌+◌, ℕ, if◌then◌else◌, true, List, [], ◌∷◌, ◌++◌, length, Option, Some, IfSome, All, option_and_then}
use Rattle.nt_design.specs.declared.design.Design.{Design}
use Rattle.nt_semantics.specs.Execution.{IsTooLong, Observation, activate, ended, expansion, has_inactive, is_active, is_entry, move_updates, run, settle}
use Rattle.nt_semantics.specs.State.{MachineState, start_state}
use Rattle.nt_semantics.specs.StateFits.{AtMost}
use Rattle.nt_semantics.specs.Step.{step, is_some_put}
use Rattle.nt_semantics.specs.declared.event.Entry.{Entry}
use Rattle.nt_semantics.specs.declared.event.Event.{Event}

-- no event has more copies in Active, where the updates in NBA count as copies of Update
pub record Few (most : ℕ) (s : MachineState) : Type 0 where
  pub copies : AtMost most s
  pub updates : length s.moved + length s.nonblocking ≤ most

-- ---- one slot
-- the Inactive events become active, or else the nonblocking updates
abbrev pub move_here : MachineState → MachineState
move_here s = if has_inactive s then activate s else (if is_some_put s.nonblocking then move_updates s else s)

-- a move within the slot, where one is needed and there is one
unfoldable pub settle_here : MachineState → MachineState
settle_here s = if is_active s then s else move_here s

-- these events one after another, each after the move within the slot that it needs
abbrev pub run_here : Design → List Event → MachineState → Option MachineState
run_here d [] s = Some s
run_here d (e ∷ es) s = option_and_then (run_here d es) (step d (settle_here s) e)

-- These entries lead within a slot from one state to another, perhaps with a move behind them; what is too long is so there;
-- and an entry adds at most one copy of an event, where a move makes one copy at most of what had none.
pub record Went (d : Design) (s : MachineState) (entries : List Entry) (too_long : Option Event) (t : MachineState) : Type 0 where
  pub reached : MachineState
  pub runs : run_here d (expansion entries) s ≡ Some reached
  pub here : (t ≡ reached) ⊎ (t ≡ settle_here reached)
  pub counted : All (λ (entry : Entry). is_entry d entry ≡ true) entries
  pub long : IfSome too_long (IsTooLong d t)
  pub moment : t.moment ≡ s.moment
  pub grows : (most : ℕ) → 1 ≤ most → Few most s → Few (most + length entries) t

-- ---- slot after slot
-- The events lead to a state that differs from this one by at most the move that the next event needs. The slots that have
-- ended are those of the first list, which were shown, and then those of the second, which are still to be shown.
pub record Reached (until : ℕ) (d : Design) (events : List Event) (slots left : List Observation) (s : MachineState) : Type 0 where
  pub last : MachineState
  pub runs : run until d events (start_state d) ≡ Some last
  pub same : settle until s ≡ settle until last
  pub ended_are : slots ++ left ≡ ended until d events (start_state d)
