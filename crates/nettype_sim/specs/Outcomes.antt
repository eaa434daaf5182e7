-- What a call of the program leaves, status by status, up to a time limit.
use Rattle.std.specs.Prelude.{◌⊎◌, ℕ, List, [], ◌++◌, codes, Option, IfSome}
use Rattle.nt_io.specs.Causes.{Rose}
use Rattle.nt_io.specs.Sinks.{SinkMeaning, Appends, Gained}
use Rattle.nt_design.specs.declared.design.Design.{Design}
use Rattle.nt_small.specs.Grammar.{Source, Says}
use Rattle.nt_small.specs.Elaboration.{design_of}
use Rattle.nettype_sim.specs.Words.{AreRunWords}
use Rattle.nettype_sim.specs.Writes.{GainsFront, Filed, Untouched}
use Rattle.nettype_sim.specs.Runs.{Witnessed, CutOff}

-- the lines of the trace that tell a status
abbrev pub usage_line : List ℕ
usage_line = codes "usage\n"

abbrev pub not_yet_line : List ℕ
not_yet_line = codes "not yet\n"

abbrev pub read_fault_line : List ℕ → List ℕ
read_fault_line file = codes "read fault " ++ (file ++ codes "\n")

abbrev pub witness_path : List ℕ → List ℕ
witness_path top = top ++ codes ".wit"

-- the words are not those of a run
abbrev pub NoRunWords : List (List ℕ) → Type 0
NoRunWords words = (file top : List ℕ) (until : ℕ) → AreRunWords words file top until → ⊥

-- the file's bytes, where they are told, say nothing of the module
abbrev pub SaysNothing : Option (List ℕ) → List ℕ → Type 0
SaysNothing told top = IfSome told (λ text. (s : Source) → Says top text s → ⊥)

-- the trace gained just this line, and the witness is untouched
pub record Tells (trace trace_now witness witness_now : SinkMeaning) (line : List ℕ) : Type 0 where
  pub gained : Gained trace trace_now line
  pub nothing_else : Untouched witness witness_now

-- the line did not go out whole, since a put to the trace failed, and the witness is untouched
pub record TellsPart (trace trace_now witness witness_now : SinkMeaning) (line : List ℕ) : Type 0 where
  pub gained : GainsFront trace trace_now line
  pub cause : Rose trace.faults trace_now.faults
  pub nothing_else : Untouched witness witness_now

-- a run of this design came to its end: the witness, at this path, and the trace hold the texts of a complete execution
abbrev pub RanDesign : ℕ → Design → List ℕ → SinkMeaning → SinkMeaning → SinkMeaning → SinkMeaning → Type 0
RanDesign until d path trace trace_now witness witness_now =
    (file : List ℕ) × (seen : List ℕ) × Witnessed until d file seen × Filed witness witness_now path file × Gained trace trace_now seen

-- a run of this design was cut off: what the witness and the trace gained are parts of the texts of an execution
abbrev pub StoppedDesign : ℕ → Design → SinkMeaning → SinkMeaning → SinkMeaning → SinkMeaning → Type 0
StoppedDesign until d trace trace_now witness witness_now =
    (file : List ℕ) × (seen : List ℕ) × CutOff until d file seen × Appends witness.written witness_now.written file × Gained trace trace_now seen

-- the file's bytes, where they are told, say something of the module, and its design was run to the end
abbrev pub RanText : ℕ → Option (List ℕ) → List ℕ → SinkMeaning → SinkMeaning → SinkMeaning → SinkMeaning → Type 0
RanText until told top trace trace_now witness witness_now =
    IfSome told (λ text. (s : Source) × Says top text s × RanDesign until (design_of s) (witness_path top) trace trace_now witness witness_now)

-- the file's bytes, where they are told, say something of the module, and the run of its design was cut off
abbrev pub StoppedText : ℕ → Option (List ℕ) → List ℕ → SinkMeaning → SinkMeaning → SinkMeaning → SinkMeaning → Type 0
StoppedText until told top trace trace_now witness witness_now =
    IfSome told (λ text. (s : Source) × Says top text s × StoppedDesign until (design_of s) trace trace_now witness witness_now)

-- a put to the trace or to the witness failed, or the open of the witness at this path
abbrev pub WriteFailed : List ℕ → SinkMeaning → SinkMeaning → SinkMeaning → SinkMeaning → Type 0
WriteFailed path trace trace_now witness witness_now =
    Rose trace.faults trace_now.faults
    ⊎ (Rose witness.faults witness_now.faults
    ⊎ Rose (witness.open_faults path) (witness_now.open_faults path))

-- what a run leaves that ended with a write fault: a part of a status line, or of the texts of an execution
abbrev pub StoppedWriting : ℕ → Option (List ℕ) → ℕ → ℕ → List ℕ → List ℕ → SinkMeaning → SinkMeaning → SinkMeaning → SinkMeaning → Type 0
StoppedWriting until told faults faults_now file top trace trace_now witness witness_now =
    (SaysNothing told top × TellsPart trace trace_now witness witness_now not_yet_line)
    ⊎ ((Rose faults faults_now × TellsPart trace trace_now witness witness_now (read_fault_line file))
    ⊎ (StoppedText until told top trace trace_now witness witness_now × WriteFailed (witness_path top) trace trace_now witness witness_now))

-- what a run leaves that found no memory: nothing, or a part of the texts of an execution
abbrev pub StoppedForMemory : ℕ → Option (List ℕ) → List ℕ → SinkMeaning → SinkMeaning → SinkMeaning → SinkMeaning → Type 0
StoppedForMemory until told top trace trace_now witness witness_now =
    Tells trace trace_now witness witness_now [] ⊎ StoppedText until told top trace trace_now witness witness_now

-- no count of faults rose
pub record NoneRose (inputs inputs_now : List ℕ → ℕ) (trace trace_now witness witness_now : SinkMeaning) : Type 0 where
  pub no_read : (path : List ℕ) → Rose (inputs path) (inputs_now path) → ⊥
  pub no_trace : Rose trace.faults trace_now.faults → ⊥
  pub no_witness : Rose witness.faults witness_now.faults → ⊥
  pub no_open : (path : List ℕ) → Rose (witness.open_faults path) (witness_now.open_faults path) → ⊥
