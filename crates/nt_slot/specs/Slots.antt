-- What the run of a slot leaves.
use Rattle.std.specs.Prelude.{◌≡◌, ℕ, ◌+◌, ◌<◌, ◌≤◌, true, List, [], length, take, Option, Some, None, Result, Ok, Err}
use Rattle.nt_io.specs.Causes.{Rose}
use Rattle.nt_io.specs.Sinks.{SinkMeaning, Gained}
use Rattle.nt_semantics.specs.Execution.{is_over}
use Rattle.nt_semantics.specs.Rounds.{RoundState}
use Rattle.nt_semantics.specs.Texts.{entry_lines}
use Rattle.nt_semantics.specs.declared.event.Entry.{Entry}
use Rattle.nt_semantics.specs.declared.event.Event.{Event}
use Rattle.nt_semantics.specs.Slots.{Went}
use Rattle.nt_slot.specs.Calls.{Setting, Call, AreMade, AreQuiet, after_calls, entries_of, lines_of}
use Rattle.nt_slot.specs.declared.rounds.RoundEnd.{RoundEnd}
use Rattle.nt_slot.specs.declared.take.SlotStop.{SlotStop}
use Rattle.nt_slot.specs.declared.take.SlotStop.TheVariants.{StepLimit, TurnLimit, Write, OutOfMemory}

-- the entries that a slot may have at a round's end are fewer
abbrev pub limit : ℕ
limit = 1000000

-- what a round's end leaves where the slot had n entries before it: the lines are written, and the count is raised
abbrev pub EndLeaves : RoundEnd → ℕ → ℕ → SinkMeaning → SinkMeaning → Result (Unit {0}) SlotStop → Type 0
EndLeaves e n m a b (Ok x) =
    Gained a b (entry_lines e.entries) × (e.too_long ≡ None) × (m ≡ n + length e.entries) × (m < limit)
EndLeaves e n m a b (Err (StepLimit k)) =
    Gained a b (entry_lines e.entries) × (e.too_long ≡ None) × (k ≡ n + length e.entries) × (limit ≤ k)
EndLeaves e n m a b (Err (TurnLimit event)) = Gained a b (entry_lines e.entries) × (e.too_long ≡ Some event)
EndLeaves e n m a b (Err (Write fault)) =
    (k : ℕ) × (k < length (entry_lines e.entries)) × Gained a b (take k (entry_lines e.entries)) × Rose a.faults b.faults
EndLeaves e n m a b (Err (OutOfMemory refused)) = Gained a b []

-- Calls of one slot, one after another, from one meaning to another, with the lines of their entries in the witness. None
-- met an event that is too long, and the slot has fewer entries than it may have.
pub record Along (made : RoundState → List Entry → Option Event → RoundState → Type 0) (s : Setting) (g : RoundState) (a : SinkMeaning) (calls : List Call) (h : RoundState) (b : SinkMeaning) : Type 0 where
  pub are_made : AreMade made g calls
  pub ends : after_calls g calls ≡ h
  pub quiet : AreQuiet calls
  pub went : Went s.design g.state (entries_of calls) None h.state
  pub few : length (entries_of calls) < limit
  pub gained : Gained a b (lines_of calls)

-- such calls, and then one more, of whose lines the witness gained these bytes
pub record Further (made : RoundState → List Entry → Option Event → RoundState → Type 0) (s : Setting) (g : RoundState) (a : SinkMeaning) (calls : List Call) (c : Call) (bytes : List ℕ) (b : SinkMeaning) : Type 0 where
  pub before : SinkMeaning
  pub between : RoundState
  pub along : Along made s g a calls between before
  pub is_made : made between c.entries c.too_long c.after
  pub went : Went s.design between.state c.entries c.too_long c.after.state
  pub gained : Gained before b bytes

-- what the run of a slot leaves, by its answer
abbrev pub SlotLeaves : (RoundState → List Entry → Option Event → RoundState → Type 0) → Setting → RoundState → RoundState → SinkMeaning → SinkMeaning → Result ℕ SlotStop → Type 0
SlotLeaves made s g h a b (Ok n) =
    (calls : List Call) × Along made s g a calls h b × (n ≡ length (entries_of calls)) × (is_over h.state ≡ true)
SlotLeaves made s g h a b (Err (StepLimit n)) =
    (calls : List Call) × (c : Call) × Further made s g a calls c (entry_lines c.entries) b × (c.after ≡ h) × (c.too_long ≡ None) × (n ≡ length (entries_of calls) + length c.entries) × (limit ≤ n)
SlotLeaves made s g h a b (Err (TurnLimit event)) =
    (calls : List Call) × (c : Call) × Further made s g a calls c (entry_lines c.entries) b × (c.after ≡ h) × (c.too_long ≡ Some event)
SlotLeaves made s g h a b (Err (Write fault)) =
    (calls : List Call) × (c : Call) × (k : ℕ) × (k < length (entry_lines c.entries)) × Further made s g a calls c (take k (entry_lines c.entries)) b × Rose a.faults b.faults
SlotLeaves made s g h a b (Err (OutOfMemory refused)) =
    (calls : List Call) × (between : RoundState) × Along made s g a calls between b
