-- Look-ups in columns.
use Rattle.std.proofs.Common.{◌≡◌, ℕ, zero, suc, List, [], ◌∷◌, get_or, slice_get, refl}
use Rattle.std.specs.Prelude.{Some, None}

pub none_there : {A : Type 0} (xs : List A) (i : ℕ) (e : A) → slice_get xs i ≡ None → get_or xs i e ≡ e
none_there [] i e h = refl
none_there (x ∷ xs) zero e h = absurd_some h
  where
    absurd_some : Some x ≡ None → get_or (x ∷ xs) zero e ≡ e
    absurd_some g = cc
none_there (x ∷ xs) (suc i) e h = none_there xs i e h
