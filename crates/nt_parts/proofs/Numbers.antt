-- The number of digits in two's complement, by their most significant one.
use Rattle.std.proofs.Common.{◌≡◌, ◌<◌, ◌≤◌, ℕ, zero, suc, ◌-◌, List, [], ◌∷◌, length, ap, sym, subst, ◌∙◌, arith}
use Rattle.std.proofs.Math.Nat.{mul-le-mul_right, mul-div-le}
use Rattle.std.specs.Prelude.{◌*◌, ◌/◌, true, ◌^◌, Some, slice_get, pos, negsuc, neg_ℤ, if◌then◌else◌, IfOk, Result}
use Rattle.nt_design.proofs.Shaped.{nothing_there, some_back}
use Rattle.nt_value.specs.Arithmetic.{integer_of}
use Rattle.nt_value.specs.Digits.{is_one, is_top_one, number_of}
use Rattle.nt_value.specs.declared.digit.Digit.{Digit}

-- the digit at the last place is the most significant one
pub top_is : (ds : List Digit) (d : Digit) (at : ℕ) → suc at ≡ length ds → slice_get ds at ≡ Some d → is_top_one ds ≡ is_one d
top_is [] d at n e = nothing_there d e
top_is (a ∷ []) d zero n e = ap is_one (some_back a d e)
top_is (a ∷ []) d (suc at) n e = nothing_there d e
top_is (a ∷ b ∷ ds) d zero n e = absurd (omega (arith, n))
top_is (a ∷ b ∷ ds) d (suc at) n e = top_is (b ∷ ds) d at (omega (arith, n)) e

-- a number below 0
pub below_is : (ds : List Digit) (w n : ℕ) → is_top_one ds ≡ true → length ds ≡ w → number_of ds < 2 ^ w → n ≡ 2 ^ w - 1 - number_of ds → negsuc n ≡ integer_of true ds
below_is ds w n top long low is =
    let e : 2 ^ w - number_of ds ≡ suc n = omega (arith, low, is) in
    sym (ap (λ b. if b then neg_ℤ (pos (2 ^ length ds - number_of ds)) else pos (number_of ds)) top
    ∙ (ap (λ k. neg_ℤ (pos (2 ^ k - number_of ds))) long ∙ ap (λ k. neg_ℤ (pos k)) e))

-- what is ok, by an equal value
pub ok_is : {A E : Type 0} (r : Result A E) (a b : A) → IfOk r (λ v. v ≡ a) → a ≡ b → IfOk r (λ v. v ≡ b)
ok_is r a b h e = subst (λ z. IfOk r (λ v. v ≡ z)) e h

-- the first leaf of an element inside an array
pub inside : (position size n most : ℕ) → position < size → n ≤ most → position * (n / size) ≤ most
inside position size n most low few =
    let e = mul-le-mul_right {m = position} {n = size} (n / size) (omega (arith, low)) in
    let f = mul-div-le n size in
    omega (arith, e, f)
