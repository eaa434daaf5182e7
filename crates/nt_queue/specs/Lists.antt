-- Queues as lists (IEEE 1800-2017, 4.4).
use Rattle.std.specs.Prelude.{◌≡◌, ℕ, ◌<◌, ◌≤◌, List, [], ◌∷◌, ◌++◌, map, Option, Some, None, Vec, All}
use Rattle.std.specs.declared.alloc.Global.{Global}
use Rattle.nt_design.specs.declared.put.Put.{Put}
use Rattle.nt_semantics.specs.Rounds.{Away, with_later, procs_at, without_moment}

-- the procedures in Inactive and in later slots, each list in the order in which they were put, and the updates in NBA
pub record Waiting : Type 0 where
  pub inactive : List ℕ
  pub updates : List Put
  pub later : List (ℕ × List ℕ)

-- the procedures that moves bring back
abbrev pub away_of : Waiting → Away
away_of w = record { inactive = w.inactive; later = w.later }

-- the lists of moments, as a map holds them
abbrev pub lists_of : List (ℕ × Vec ℕ Global) → List (ℕ × List ℕ)
lists_of entries = map (λ (entry : ℕ × Vec ℕ Global). (entry.0, entry.1.items)) entries

-- one more in Inactive, in NBA, or at a moment
abbrev pub with_inactive : ℕ → Waiting → Waiting
with_inactive proc w = record w { inactive = w.inactive ++ proc ∷ [] }

abbrev pub with_update : Put → Waiting → Waiting
with_update put w = record w { updates = w.updates ++ put ∷ [] }

abbrev pub with_moment : ℕ → ℕ → Waiting → Waiting
with_moment at proc w = record w { later = with_later at proc w.later }

-- What is taken of the later lists: the whole list of the least moment, where that is not after the limit. Else nothing is
-- taken, and no moment is at most the limit.
abbrev pub TakesNext : ℕ → Waiting → Waiting → Option (ℕ × Vec ℕ Global) → Type 0
TakesNext until old new None = All (λ (slot : ℕ × List ℕ). until < slot.0) old.later × (new ≡ old)
TakesNext until old new (Some taken) =
    (taken.0 ≤ until) × (taken.1.items ≡ procs_at taken.0 old.later) × All (λ (slot : ℕ × List ℕ). taken.0 ≤ slot.0) old.later × (new ≡ record old { later = without_moment taken.0 old.later })
