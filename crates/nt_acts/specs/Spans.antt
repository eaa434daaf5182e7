-- Indices in order, as the code holds them.
use Rattle.std.specs.Prelude.{◌≡◌, ◌≤◌, ℕ, ◌+◌, ◌-◌, ◌^◌, true, false, if◌then◌else◌, List}
use Rattle.nt_design.specs.Statements.{downwards, upwards}
use Rattle.nt_acts.specs.declared.span.Span.{Span}

abbrev pub span_indices : Span → List ℕ
span_indices span = if span.up then upwards span.from span.many else downwards span.from span.many

-- the index of this number
abbrev pub index_of : Span → ℕ → ℕ
index_of span at = if span.up then span.from + at else span.from - at

-- each index is one of 32 bits, and none is below 0
pub record IsSpan (span : Span) : Type 0 where
  pub ascends : span.up ≡ true → span.from + span.many ≤ 2 ^ 32
  pub descends : span.up ≡ false → span.many ≤ span.from + 1
