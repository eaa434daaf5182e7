-- Numbers whose most significant digit is 1.
use Rattle.std.proofs.Common.{◌≡◌, ℕ, zero, suc, ◌≤◌, Bool, true, false, ◌&&◌, List, [], ◌∷◌, slice_get, refl, arith}
use Rattle.nt_value.specs.Digits.{LeafValue, is_one, one_of, number_of}
use Rattle.nt_value.specs.declared.digit.Digit.{Digit}
use Rattle.nt_value.specs.declared.digit.Digit.TheVariants.{Zero, One, X, Z}
use Rattle.nt_const.specs.Tables.{or_zero, is_negative}

one_counts : (d : Digit) → is_one d ≡ true → one_of d ≡ 1
one_counts Zero e = absurd (let f : false ≡ true = e in cc)
one_counts One e = refl
one_counts X e = absurd (let f : false ≡ true = e in cc)
one_counts Z e = absurd (let f : false ≡ true = e in cc)

pub positive : (ds : List Digit) (i : ℕ) → is_one (or_zero (slice_get ds i)) ≡ true → 1 ≤ number_of ds
positive [] i e = absurd (let f : false ≡ true = e in cc)
positive (d ∷ ds) zero e = let o = one_counts d e in omega arith
positive (d ∷ ds) (suc i) e = let h = positive ds i e in omega arith

and_right : (a b : Bool) → (a && b) ≡ true → b ≡ true
and_right true b e = e
and_right false b e = absurd (let f : false ≡ true = e in cc)

pub below_positive : (v : LeafValue) → is_negative v ≡ true → 1 ≤ number_of v.digits
below_positive v e = positive v.digits _ (and_right v.leaf.signed _ e)
