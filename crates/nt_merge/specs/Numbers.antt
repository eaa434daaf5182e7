-- Classes by number, and their drivers on the way. For the proof alone.
use Rattle.std.specs.Prelude.{◌≡◌, ◌⊎◌, ℕ, ◌<◌, Bool, false, List, [], ◌∷◌, ◌++◌, length, get_or, set, map, Vec, Option, Some, None, Result, Ok, Err}
use Rattle.std.specs.declared.alloc.Global.{Global}
use Rattle.nt_merge.specs.declared.drivers.DriverFault.{DriverFault}
use Rattle.nt_merge.specs.declared.drivers.DriverFault.TheVariants as fault
use Rattle.nt_merge.specs.Drivers.{drivers_by_class, leaders_within, FaultOf, NoFault}

-- the list gives each of the first n segments the number of its class among those of them
pub record IsNumbering (least : List ℕ) (n : ℕ) (numbers : List ℕ) (count : ℕ) : Type 0 where
  pub size : length numbers ≡ n
  pub many : length (leaders_within least n) ≡ count
  pub within : (a : ℕ) → a < n → get_or numbers a 0 < count
  pub leader : (a : ℕ) → a < n → get_or (leaders_within least n) (get_or numbers a 0) 0 ≡ get_or least a 0
  pub low : (k : ℕ) → k < count → get_or (leaders_within least n) k 0 < n
  pub own : (k : ℕ) → k < count → get_or numbers (get_or (leaders_within least n) k 0) 0 ≡ k

abbrev pub contents : List (Vec ℕ Global) → List (List ℕ)
contents = map (λ l. l.items)

-- one assignment more at the end of one list
abbrev pub Added : List (Vec ℕ Global) → ℕ → ℕ → List (Vec ℕ Global) → Type 0
Added before net at after = contents after ≡ set (contents before) net (get_or (contents before) net [] ++ at ∷ [])

-- the fault of an assignment whose net has so many drivers before it
abbrev pub Judged : ℕ → ℕ → Bool → Option DriverFault → Type 0
Judged at count resolved (Some f) = ((resolved ≡ false) × (count ≡ 1) × (f ≡ fault.Second at)) ⊎ ((count ≡ 1024) × (f ≡ fault.TooMany at))
Judged at count resolved None = (resolved ≡ false → count ≡ 1 → ⊥) × (count ≡ 1024 → ⊥)

abbrev pub Fills : List ℕ → List ℕ → List Bool → List (List ℕ) → Result (Unit {0}) DriverFault → Type 0
Fills least driven resolved lists (Ok done) = (lists ≡ drivers_by_class least driven) × NoFault least driven resolved
Fills least driven resolved lists (Err f) = FaultOf least driven resolved f
