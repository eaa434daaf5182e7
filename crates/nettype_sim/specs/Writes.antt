-- What a call writes to a sink, whole or in part.
use Rattle.std.specs.Prelude.{◌≡◌, ℕ, ◌<◌, ◌≤◌, List, length, take, IfSome, Some}
use Rattle.nt_io.specs.Causes.{NoneFalls}
use Rattle.nt_io.specs.Sinks.{SinkMeaning, Appends, Gained}

-- a front of a text
abbrev pub IsFront : List ℕ → List ℕ → Type 0
IsFront part text = (n : ℕ) × (part ≡ take n text)

-- the sink gained a front of this text, but not all of it
abbrev pub GainsFront : SinkMeaning → SinkMeaning → List ℕ → Type 0
GainsFront before now text = (n : ℕ) × (n < length text) × Gained before now (take n text)

-- the sink gained a front of this text, or all of it
abbrev pub GainsPart : SinkMeaning → SinkMeaning → List ℕ → Type 0
GainsPart before now text = (n : ℕ) × Gained before now (take n text)

-- the sink was opened at this path, which it tells where it tells paths, and then gained these bytes
pub record Filed (before now : SinkMeaning) (path bytes : List ℕ) : Type 0 where
  pub named : IfSome now.path (λ p. p ≡ path)
  pub told : IfSome before.path (λ p. now.path ≡ Some path)
  pub written : Appends before.written now.written bytes

-- the sink was opened at this path, and no byte was written
pub record Opened (before now : SinkMeaning) (path : List ℕ) : Type 0 where
  pub named : IfSome now.path (λ p. p ≡ path)
  pub told : IfSome before.path (λ p. now.path ≡ Some path)
  pub written : now.written ≡ before.written
  pub faults : before.faults ≤ now.faults
  pub open_faults : NoneFalls before.open_faults now.open_faults

-- nothing was opened or written
abbrev pub Untouched : SinkMeaning → SinkMeaning → Type 0
Untouched before now = now ≡ before
