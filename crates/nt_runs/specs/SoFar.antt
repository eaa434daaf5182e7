-- A run so far, and what a run leaves.
use Rattle.std.specs.Prelude.{◌≡◌, ℕ, true, List, [], ◌∷◌, ◌++◌, Option, None, Result, Ok, Err, All, length}
use Rattle.nt_io.specs.Sinks.{SinkMeaning, Gained}
use Rattle.nt_design.specs.declared.design.Design.{Design}
use Rattle.nt_semantics.specs.Execution.{is_over, is_entry, expansion, ended, seen, observation_of, Observation, Execution, IsComplete}
use Rattle.nt_semantics.specs.Rounds.{RoundState}
use Rattle.nt_semantics.specs.State.{MachineState, start_state}
use Rattle.nt_semantics.specs.declared.event.Entry.{Entry}
use Rattle.nt_semantics.specs.declared.event.Event.{Event}
use Rattle.nt_slot.specs.Calls.{Setting, Call, AreMade, AreQuiet, after_calls, entries_of, lines_of}
use Rattle.nt_slot.specs.Slots.{SlotLeaves, Along}
use Rattle.nt_slot.specs.declared.take.SlotStop.TheVariants.{StepLimit, TurnLimit, Write, OutOfMemory}
use Rattle.nt_slot.specs.declared.take.SlotStop.{SlotStop}
use Rattle.nt_semantics.specs.Slots.{Reached, Went}
use Rattle.nt_runs.specs.declared.runs.RunStop.{RunStop}
use Rattle.nt_runs.specs.declared.runs.RunStop.TheVariants.{Slot, End}

-- Calls one after another from the start, with the lines of their entries in the witness. The entries stand for an
-- execution, and the slots that have ended in it are those shown and those still to be shown.
pub record SoFar (until : ℕ) (made : RoundState → List Entry → Option Event → RoundState → Type 0) (s : Setting) (g : RoundState) (a : SinkMeaning) (calls : List Call) (slots left : List Observation) (h : RoundState) (b : SinkMeaning) : Type 0 where
  pub are_made : AreMade made g calls
  pub ends : after_calls g calls ≡ h
  pub quiet : AreQuiet calls
  pub counted : All (λ (entry : Entry). is_entry s.design entry ≡ true) (entries_of calls)
  pub reached : Reached until s.design (expansion (entries_of calls)) slots left h.state
  pub gained : Gained a b (lines_of calls)

-- a run to its end: a complete execution, whose entries are in the witness and whose slots were shown
pub record RunsWhole (until : ℕ) (made : RoundState → List Entry → Option Event → RoundState → Type 0) (s : Setting) (g : RoundState) (a b : SinkMeaning) (shown : List Observation → Type 0) (h : RoundState) : Type 0 where
  pub calls : List Call
  pub are_made : AreMade made g calls
  pub quiet : AreQuiet calls
  pub gained : Gained a b (lines_of calls)
  pub execution : Execution until s.design (entries_of calls) h.state
  pub complete : IsComplete until h.state
  pub slots_shown : shown (ended until s.design (expansion (entries_of calls)) (start_state s.design))

-- a run that stopped in a slot: the slots before it were shown
pub record StopsInSlot (until : ℕ) (made : RoundState → List Entry → Option Event → RoundState → Type 0) (s : Setting) (g : RoundState) (a b : SinkMeaning) (shown : List Observation → Type 0) (h : RoundState) (stop : SlotStop) : Type 0 where
  pub calls : List Call
  pub slots : List Observation
  pub between : RoundState
  pub before : SinkMeaning
  pub so_far : SoFar until made s g a calls slots (seen between.state) between before
  pub slot : SlotLeaves made s between h before b (Err stop)
  pub slots_shown : shown slots

-- a run that stopped at a slot's end, which was not shown, or in part
pub record StopsAtEnd (until : ℕ) (made : RoundState → List Entry → Option Event → RoundState → Type 0) (s : Setting) (g : RoundState) (a b : SinkMeaning) (broken : List Observation → Type 0) : Type 0 where
  pub calls : List Call
  pub slots : List Observation
  pub between : RoundState
  pub so_far : SoFar until made s g a calls slots (seen between.state) between b
  pub over : is_over between.state ≡ true
  pub slots_broken : broken (slots ++ observation_of between.state ∷ [])

abbrev pub RunLeaves : (until : ℕ) → (made : RoundState → List Entry → Option Event → RoundState → Type 0) → Setting → RoundState → RoundState → SinkMeaning → SinkMeaning → (shown broken : List Observation → Type 0) → Result (Unit {0}) RunStop → Type 0
RunLeaves until made s g h a b shown broken (Ok x) = RunsWhole until made s g a b shown h
RunLeaves until made s g h a b shown broken (Err (Slot stop)) = StopsInSlot until made s g a b shown h stop
RunLeaves until made s g h a b shown broken (Err (End stop)) = StopsAtEnd until made s g a b broken

-- ---- one slot
-- the slots that are shown after a slot that is over
abbrev pub SlotShown : (old new broken : List Observation → Type 0) → Observation → Result (Unit {0}) RunStop → Type 0
SlotShown old new broken o (Ok x) = (slots : List Observation) → old slots → new (slots ++ o ∷ [])
SlotShown old new broken o (Err (Slot (OutOfMemory refused))) = (slots : List Observation) → old slots → new slots
SlotShown old new broken o (Err (Slot (StepLimit n))) = ⊥
SlotShown old new broken o (Err (Slot (TurnLimit event))) = ⊥
SlotShown old new broken o (Err (Slot (Write fault))) = ⊥
SlotShown old new broken o (Err (End stop)) = (slots : List Observation) → old slots → broken (slots ++ o ∷ [])

abbrev pub OneLeaves : (made : RoundState → List Entry → Option Event → RoundState → Type 0) → Setting → RoundState → RoundState → SinkMeaning → SinkMeaning → (old new broken : List Observation → Type 0) → Result (Unit {0}) RunStop → Type 0
OneLeaves made s g h a b old new broken (Ok x) =
    (calls : List Call) × Along made s g a calls h b × (is_over h.state ≡ true) × ((slots : List Observation) → old slots → new (slots ++ observation_of h.state ∷ []))
OneLeaves made s g h a b old new broken (Err (Slot stop)) =
    SlotLeaves made s g h a b (Err stop) × ((slots : List Observation) → old slots → new slots)
OneLeaves made s g h a b old new broken (Err (End stop)) =
    (calls : List Call) × (between : RoundState) × Along made s g a calls between b × (is_over between.state ≡ true) × ((slots : List Observation) → old slots → broken (slots ++ observation_of between.state ∷ []))

-- the states of a slot have so many variables and nets
abbrev pub KeepsSizes : Setting → RoundState → ℕ → ℕ → Type 0
KeepsSizes s g vars nets =
    (entries : List Entry) (t : MachineState) → Went s.design g.state entries None t → (vars ≡ length t.vars) × (nets ≡ length t.nets)

-- the states of a run have so many variables and nets
abbrev pub HaveSizes : ℕ → Design → ℕ → ℕ → Type 0
HaveSizes until d vars nets =
    (events : List Event) (slots left : List Observation) (t : MachineState) → Reached until d events slots left t → (vars ≡ length t.vars) × (nets ≡ length t.nets)
