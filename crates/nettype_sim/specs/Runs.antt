-- The texts that a run writes, as those of an execution.
use Rattle.std.specs.Prelude.{◌≡◌, ◌⊎◌, ℕ, ◌<◌, List, [], ◌++◌, None, length, take, All}
use Rattle.nt_io.specs.Sinks.{SinkMeaning, Gained}
use Rattle.nt_design.specs.declared.design.Design.{Design}
use Rattle.nt_semantics.specs.State.{MachineState, start_state}
use Rattle.nt_semantics.specs.Execution.{Execution, IsComplete, Limit, IsMet, expansion, ended, followed, settle}
use Rattle.nt_semantics.specs.Texts.{witness_text, witness_head, witness_end, entry_line, entry_lines, slots_text, trace_text, limit_text, IsWritten}
use Rattle.nt_semantics.specs.declared.event.Entry.{Entry}
use Rattle.nettype_sim.specs.Writes.{IsFront}

-- The witness is the text of one list of entries, and of no other: what a line can tell of each is what it tells. They stand for an execution of the design that is complete to the
-- time limit, and the trace is that execution's.
pub record Witnessed (until : ℕ) (d : Design) (witness trace : List ℕ) : Type 0 where
  pub entries : List Entry
  pub end_state : MachineState
  pub execution : Execution until d entries end_state
  pub complete : IsComplete until end_state
  pub written : All IsWritten entries
  pub witness_is : witness ≡ witness_text entries
  pub trace_is : trace ≡ trace_text d until (ended until d (expansion entries) (start_state d)) end_state.finished

-- a front of a line, but not all of it
abbrev pub IsLineFront : List ℕ → List ℕ → Type 0
IsLineFront part line = (n : ℕ) × (n < length line) × (part ≡ take n line)

-- what stands behind the last whole entry line: a front of an entry's line, or of the last line
abbrev pub IsLastPart : List ℕ → Type 0
IsLastPart part =
    ((entry : Entry) × (IsWritten entry × IsLineFront part (entry_line entry))) ⊎ IsLineFront part witness_end

-- a witness that was cut off: a front of its first line, or that line, the lines of these entries, and a last part
abbrev pub IsCutWitness : List Entry → List ℕ → Type 0
IsCutWitness entries witness =
    ((entries ≡ []) × IsLineFront witness witness_head)
    ⊎ ((part : List ℕ) × IsLastPart part × (witness ≡ witness_head ++ (entry_lines entries ++ part)))

-- The trace of a run that stopped: a front of the text of the slots that have ended; or of that text with the end line, where
-- the execution is complete; or of that of the slots that a later one followed, with the line of a limit that was met.
abbrev pub IsCutTrace : ℕ → Design → List Entry → MachineState → List ℕ → Type 0
IsCutTrace until d entries reached trace =
    IsFront trace (slots_text d None (ended until d (expansion entries) (start_state d)))
    ⊎ ((IsComplete until reached × IsFront trace (trace_text d until (ended until d (expansion entries) (start_state d)) reached.finished))
    ⊎ ((limit : Limit) × (IsMet until d entries reached limit × IsFront trace (slots_text d None (followed until d (expansion entries) (start_state d)) ++ limit_text (settle until reached).moment limit))))

-- A run that stopped. The whole entry lines of the witness stand for an execution, which need not be complete.
pub record CutOff (until : ℕ) (d : Design) (witness trace : List ℕ) : Type 0 where
  pub entries : List Entry
  pub reached : MachineState
  pub execution : Execution until d entries reached
  pub written : All IsWritten entries
  pub witness_is : IsCutWitness entries witness
  pub trace_is : IsCutTrace until d entries reached trace

-- a run to its end: the sinks gained the texts of a complete execution
abbrev pub RunsWhole : ℕ → Design → SinkMeaning → SinkMeaning → SinkMeaning → SinkMeaning → Type 0
RunsWhole until d trace trace_now witness witness_now =
    (file : List ℕ) × (seen : List ℕ) × Witnessed until d file seen × Gained witness witness_now file × Gained trace trace_now seen

-- a run that was cut off: the sinks gained parts of the texts of an execution
abbrev pub RunsInPart : ℕ → Design → SinkMeaning → SinkMeaning → SinkMeaning → SinkMeaning → Type 0
RunsInPart until d trace trace_now witness witness_now =
    (file : List ℕ) × (seen : List ℕ) × CutOff until d file seen × Gained witness witness_now file × Gained trace trace_now seen
