-- The states of the designs that the program takes today (nt_design's specs/Plain). They are states of the whole definitions,
-- in which nothing is anywhere but in Active, and there only evaluations and resolutions.
use Rattle.std.specs.Prelude.{◌≡◌, ℕ, false, if◌then◌else◌, [], slice_set}
use Rattle.nt_design.specs.Parts.{Value}
use Rattle.nt_semantics.specs.Same.{is_same}
use Rattle.nt_semantics.specs.State.{MachineState, value_at, more, fewer}

-- no procedure waits or is ready, and nothing is put into another region
pub record IsPlainState (s : MachineState) : Type 0 where
  pub standings : s.standings ≡ []
  pub work : s.work ≡ []
  pub nonblocking : s.nonblocking ≡ []
  pub moved : s.moved ≡ []
  pub shown : s.shown ≡ []
  pub finished : s.finished ≡ false

-- what an evaluation leaves of one
abbrev pub driven_plain : MachineState → ℕ → ℕ → Value → MachineState
driven_plain s a n value = record s {
  slots = slice_set s.slots a value;
  evaluations = fewer 1 s.evaluations a;
  resolutions = if is_same (value_at s.slots a) value then s.resolutions else more s.resolutions n;
}

-- what a resolution leaves of one
abbrev pub published_plain : MachineState → ℕ → Value → MachineState
published_plain s n value = record s { nets = slice_set s.nets n value; resolutions = fewer 1 s.resolutions n }
