-- What has gone to a trace, slot after slot.
use Rattle.std.specs.Prelude.{◌≡◌, ℕ, List, [], ◌∷◌, take, option_map, Option, Some, None}
use Rattle.nt_io.specs.Sinks.{SinkMeaning, Gained}
use Rattle.nt_design.specs.declared.design.Design.{Design}
use Rattle.nt_design.specs.declared.object.Object.{Object}
use Rattle.nt_semantics.specs.Execution.{Observation}
use Rattle.nt_semantics.specs.Texts.{objects_of, slots_text}
use Rattle.nt_runs.specs.declared.end.Seen.{Seen}
use Rattle.nt_runs.specs.Views.{observed}

-- the last one of these slots, which come after one that there may be
abbrev pub last_seen : Option Observation → List Observation → Option Observation
last_seen before [] = before
last_seen before (seen ∷ slots) = last_seen (Some seen) slots

abbrev pub seen_before : Option Seen → Option Observation
seen_before before = option_map observed before

-- the trace gained the text of these slots, and what is kept is that of the last one
pub record Traced (d : Design) (start now : SinkMeaning) (shown : List Object) (before : Option Seen) (slots : List Observation) : Type 0 where
  pub gained : Gained start now (slots_text d None slots)
  pub kept : seen_before before ≡ last_seen None slots
  pub all : shown ≡ objects_of d

-- the trace gained a front of the text of these slots
abbrev pub TracedInPart : Design → SinkMeaning → SinkMeaning → List Observation → Type 0
TracedInPart d start now slots = (n : ℕ) × Gained start now (take n (slots_text d None slots))
