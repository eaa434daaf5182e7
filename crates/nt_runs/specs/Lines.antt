-- The whole lines of a witness in which a run stopped.
use Rattle.std.specs.Prelude.{◌≡◌, ◌⊎◌, ℕ, ◌<◌, List, [], ◌++◌, length, take}
use Rattle.nt_io.specs.Sinks.{SinkMeaning, Gained}
use Rattle.nt_design.specs.declared.design.Design.{Design}
use Rattle.nt_semantics.specs.Execution.{Execution}
use Rattle.nt_semantics.specs.State.{MachineState}
use Rattle.nt_semantics.specs.Texts.{entry_line, entry_lines}
use Rattle.nt_semantics.specs.declared.event.Entry.{Entry}

-- nothing, or a front of an entry's line
abbrev pub IsPart : List ℕ → Type 0
IsPart part = (part ≡ []) ⊎ ((entry : Entry) × (n : ℕ) × (n < length (entry_line entry)) × (part ≡ take n (entry_line entry)))

-- the whole lines that the witness gained are those of an execution, and what stands behind them is a front of a line
pub record WholeLines (until : ℕ) (d : Design) (a b : SinkMeaning) : Type 0 where
  pub entries : List Entry
  pub last : MachineState
  pub execution : Execution until d entries last
  pub part : List ℕ
  pub is_part : IsPart part
  pub gained : Gained a b (entry_lines entries ++ part)
