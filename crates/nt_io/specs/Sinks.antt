-- What a sink means, and what an open or a write leaves of it.
use Rattle.std.specs.Prelude.{ℕ, List, [], ◌≡◌, ◌++◌, ◌≤◌, take, Option, Some, None, IfSome, Result, Ok, Err, OnOk, OnErr}
use Rattle.nt_io.specs.Causes.{HasCause, NoneFalls}

pub record SinkMeaning : Type 0 where
  -- the bytes written so far, where the object tells them
  pub written : Option (List ℕ)
  -- the path of the last open that succeeded, where the object tells it
  pub path : Option (List ℕ)
  -- how many puts have failed
  pub faults : ℕ
  -- how many opens of each path have failed
  pub open_faults : List ℕ → ℕ

-- where the old bytes are told, the new ones are told too, and are the old ones and then these
abbrev pub Appends : Option (List ℕ) → Option (List ℕ) → List ℕ → Type 0
Appends old new bytes = IfSome old (λ held. new ≡ Some (held ++ bytes))

-- what a write leaves: the sink gained these bytes, its path stays, and no count fell
pub record Gained (before now : SinkMeaning) (bytes : List ℕ) : Type 0 where
  pub written : Appends before.written now.written bytes
  pub path : now.path ≡ before.path
  pub faults : before.faults ≤ now.faults
  pub open_faults : NoneFalls before.open_faults now.open_faults

-- a put that took n bytes leaves the sink with the first n more, and one that failed with none
abbrev pub PutLeaves : {E : Type 0} → SinkMeaning → SinkMeaning → List ℕ → Result ℕ E → Type 0
PutLeaves before now bytes (Ok n) = Gained before now (take n bytes)
PutLeaves before now bytes (Err e) = Gained before now []

-- what an open of a path leaves: no byte is written and no count falls; one that succeeded leaves the new path, where
-- a path is told, and one that failed the old path
pub record OpenLeaves {T E : Type 0} (before now : SinkMeaning) (name : List ℕ) (result : Result T E) : Type 0 where
  pub named : OnOk result (IfSome now.path (λ path. path ≡ name))
  pub told : OnOk result (IfSome before.path (λ _. now.path ≡ Some name))
  pub kept : OnErr result (now.path ≡ before.path)
  pub written : now.written ≡ before.written
  pub faults : before.faults ≤ now.faults
  pub open_faults : NoneFalls before.open_faults now.open_faults
  pub cause : HasCause (before.open_faults name) (now.open_faults name) result

-- what a sink means that tells neither bytes nor path, and has one count of failures
abbrev pub untold : ℕ → SinkMeaning
untold failed = record { written = None; path = None; faults = failed; open_faults = λ _. failed }
