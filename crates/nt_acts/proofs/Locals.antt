-- Locals that are set.
use Rattle.std.proofs.Common.{◌≡◌, ℕ, zero, suc, List, [], ◌∷◌, refl, ap, sym}
use Rattle.std.specs.Prelude.{None, slice_get, slice_set}
use Rattle.nt_design.proofs.Shaped.{nothing_there}

-- a local that isn't there takes no value
pub set_none : {A : Type 0} (xs : List A) (i : ℕ) (x : A) → slice_get xs i ≡ None → xs ≡ slice_set xs i x
set_none [] i x h = refl
set_none (y ∷ xs) zero x h = nothing_there y (sym h)
set_none (y ∷ xs) (suc i) x h = ap (λ l. y ∷ l) (set_none xs i x h)
