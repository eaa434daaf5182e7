-- What an answer says of what takes turns.
use Rattle.std.specs.Prelude.{◌≡◌, ◌≤◌, ⊤, ℕ, Some, None, Result, Ok, Err}
use Rattle.nt_design.specs.Turns.{Timed}
use Rattle.nt_design.specs.declared.env.Stop.{Stop}
use Rattle.nt_design.specs.declared.env.Stop.TheVariants.{TooLong, OutOfMemory}

-- what comes out, with the turns that are left of so many; `TooLong` exactly where nothing does; and want of memory
abbrev pub Tells : {A : Type 0} → ℕ → Timed A → Result (A × ℕ) Stop → Type 0
Tells most m (Ok p) = (m ≡ Some p) × (p.1 ≤ most)
Tells most m (Err TooLong) = m ≡ None
Tells most m (Err (OutOfMemory e)) = ⊤

-- an answer, by what its value stands for
abbrev pub seen : {A B : Type 0} → (A → B) → Result (A × ℕ) Stop → Result (B × ℕ) Stop
seen f (Ok p) = Ok (f p.0, p.1)
seen f (Err e) = Err e
