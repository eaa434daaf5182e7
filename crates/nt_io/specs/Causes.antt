-- When a failure may be answered: only where the object's own count of failures rose in the call.
use Rattle.std.specs.Prelude.{ℕ, List, ◌+◌, ◌-◌, ◌^◌, ◌≤◌, min, Result, OnErr}

-- the count is greater than it was, or stands at its last value, 2^64 - 1
abbrev pub Rose : ℕ → ℕ → Type 0
Rose before now = min (before + 1) (2 ^ 64 - 1) ≤ now

-- the count does not fall, and rose where the call failed
pub record HasCause {T E : Type 0} (before now : ℕ) (result : Result T E) : Type 0 where
  pub later : before ≤ now
  pub failed : OnErr result (Rose before now)

-- no path's count falls
abbrev pub NoneFalls : (List ℕ → ℕ) → (List ℕ → ℕ) → Type 0
NoneFalls before now = (path : List ℕ) → before path ≤ now path
