-- Numbers by their signs.
use Rattle.std.proofs.Common.{◌≡◌, ℕ, zero, suc, ◌+◌, ◌-◌, ◌*◌, ◌/◌, ◌%◌, ◌^◌, ◌<◌, List, [], ◌∷◌, length, Bool, true, false, ◌&&◌, refl, sym, ap, ◌∙◌, arith, ℤ, pos, neg_ℤ, int_lt, nat_lt, not}
use Rattle.std.specs.Prelude.{◌==◌, if◌then◌else◌, int_div, int_rem, unsigned_abs}
use Rattle.std.proofs.lemmas.Int.{ints}
use Rattle.std.proofs.lemmas.Bool.Decides.{nat_tests}
use Rattle.std.proofs.lemmas.Bool.{and_parts, false≢true}
use Rattle.std.proofs.Math.Bool.{beq}
use Rattle.std.proofs.Math.Nat.{pow-suc, zero-div, zero-mod}
use Rattle.nt_value.specs.declared.digit.Digit.{Digit}
use Rattle.nt_value.specs.declared.digit.Digit.TheVariants.{Zero, One, X, Z}
use Rattle.nt_value.specs.Digits.{LeafValue, is_top_one, number_of, one_of}
use Rattle.nt_value.specs.Operators.{number, both_known, can_divide}
use Rattle.nt_value.proofs.Modular.{IsLow, low_same}

-- ---- a number by its sign and its word
pub value_low : (negative : Bool) (w v : ℕ) → v < 2 ^ w → IsLow w (if negative then neg_ℤ (pos (2 ^ w - v)) else pos v) v
value_low true w v h = record { up = 0; down = 1; same = omega (arith, ints) }
value_low false w v h = low_same w v

-- a number is negative in a signed leaf with a top digit 1
abbrev pub is_negative : LeafValue → Bool
is_negative p = p.leaf.signed && is_top_one p.digits

one_of-lt : (d : Digit) → one_of d < 2
one_of-lt Zero = omega arith
one_of-lt One = omega arith
one_of-lt X = omega arith
one_of-lt Z = omega arith

pub number_of-lt : (ds : List Digit) → number_of ds < 2 ^ length ds
number_of-lt [] = omega arith
number_of-lt (d ∷ ds) =
    let e : 2 ^ suc (length ds) ≡ 2 ^ length ds * 2 = pow-suc 2 (length ds) in
    let more = number_of-lt ds in
    let one : one_of d < 2 = one_of-lt d in
    omega arith

-- the number that a word writes in two's complement
abbrev pub signed_number : Bool → ℕ → ℕ → ℤ
signed_number negative whole word = if negative then neg_ℤ (pos (whole - word)) else pos word

neg_back : (n : ℕ) → unsigned_abs (neg_ℤ (pos n)) ≡ n
neg_back zero = refl
neg_back (suc n) = refl

pub absolute_is : (s : Bool) (whole word : ℕ) → unsigned_abs (signed_number s whole word) ≡ (if s then whole - word else word)
absolute_is true whole word = neg_back (whole - word)
absolute_is false whole word = refl

-- numbers of two signs
below_zero : (m n : ℕ) → 0 < m → int_lt (neg_ℤ (pos m)) (pos n) ≡ true
below_zero zero n h = absurd (omega arith)
below_zero (suc m) n h = refl

not_below_zero : (m n : ℕ) → 0 < n → int_lt (pos m) (neg_ℤ (pos n)) ≡ false
not_below_zero m zero h = absurd (omega arith)
not_below_zero m (suc n) h = refl

below_differ : (s t : Bool) (v w a b : ℕ) → a < v → b < w → (s ≡ t → ⊥) → s ≡ int_lt (signed_number s v a) (signed_number t w b)
below_differ true true v w a b h k d = absurd (d refl)
below_differ true false v w a b h k d = sym (below_zero (v - a) b (omega arith))
below_differ false true v w a b h k d = sym (not_below_zero a (w - b) (omega arith))
below_differ false false v w a b h k d = absurd (d refl)

-- numbers of one sign
both_below : (m n a b : ℕ) → 0 < m → 0 < n → m + a ≡ n + b → nat_lt a b ≡ int_lt (neg_ℤ (pos m)) (neg_ℤ (pos n))
both_below zero n a b h k e = absurd (omega arith)
both_below (suc m) zero a b h k e = absurd (omega arith)
both_below (suc m) (suc n) a b h k e = grind (arith, nat_tests)

pub below_same : (s t : Bool) (w a b : ℕ) → a < w → b < w → s ≡ t → nat_lt a b ≡ int_lt (signed_number s w a) (signed_number t w b)
below_same true true w a b h k e = both_below (w - a) (w - b) a b (omega arith) (omega arith) (omega arith)
below_same true false w a b h k e = absurd (false≢true (sym e))
below_same false true w a b h k e = absurd (false≢true e)
below_same false false w a b h k e = refl

-- ---- quotients and remainders by signs
abbrev pub with_sign : Bool → ℕ → ℤ
with_sign negative n = if negative then neg_ℤ (pos n) else pos n

sign_back : (s : Bool) (whole word : ℕ) → signed_number s whole word ≡ with_sign s (unsigned_abs (signed_number s whole word))
sign_back true whole word = ap (λ n. neg_ℤ (pos n)) (sym (neg_back (whole - word)))
sign_back false whole word = refl

none_divided : (n : ℕ) → neg_ℤ (pos (0 / n)) ≡ pos (0 / n)
none_divided n = rw (zero-div n) refl

none_left : (n : ℕ) → pos (0 % n) ≡ neg_ℤ (pos (0 % n))
none_left n = rw (zero-mod n) refl

quotient_signs : (s t : Bool) (m n : ℕ) → 0 < n → int_div (with_sign s m) (with_sign t n) ≡ with_sign (not (beq s t)) (m / n)
quotient_signs false false m n h = refl
quotient_signs false true m zero h = absurd (omega arith)
quotient_signs false true m (suc n) h = refl
quotient_signs true false zero n h = sym (none_divided n)
quotient_signs true false (suc m) n h = refl
quotient_signs true true m zero h = absurd (omega arith)
quotient_signs true true zero (suc n) h = none_divided (suc n)
quotient_signs true true (suc m) (suc n) h = refl

remainder_signs : (s t : Bool) (m n : ℕ) → int_rem (with_sign s m) (with_sign t n) ≡ with_sign s (m % n)
remainder_signs false false m n = refl
remainder_signs false true m n = ap (λ k. pos (m % k)) (neg_back n)
remainder_signs true false zero n = none_left n
remainder_signs true false (suc m) n = refl
remainder_signs true true zero n = ap (λ k. pos (0 % k)) (neg_back n) ∙ none_left n
remainder_signs true true (suc m) n = ap (λ k. neg_ℤ (pos (suc m % k))) (neg_back n)

absolute_positive : (s : Bool) (whole word : ℕ) → word < whole → 0 < word → 0 < unsigned_abs (signed_number s whole word)
absolute_positive true whole word h k = omega (arith, neg_back (whole - word))
absolute_positive false whole word h k = k

positive : (n : ℕ) → not (n == 0) ≡ true → 0 < n
positive zero h = absurd (false≢true h)
positive (suc n) h = omega arith

-- ---- the numbers of leaves
number_signs : (p : LeafValue) → number p ≡ with_sign (is_negative p) (unsigned_abs (number p))
number_signs p = sign_back (is_negative p) (2 ^ length p.digits) (number_of p.digits)

pub divisor_positive : (p q : LeafValue) → can_divide p q ≡ true → 0 < unsigned_abs (number q)
divisor_positive p q h =
    let parts = and_parts (both_known p q) (not (number_of q.digits == 0)) h in
    absolute_positive (is_negative q) (2 ^ length q.digits) (number_of q.digits) (number_of-lt q.digits) (positive (number_of q.digits) parts.1)

pub quotient_is : (p q : LeafValue) → 0 < unsigned_abs (number q) → with_sign (not (beq (is_negative p) (is_negative q))) (unsigned_abs (number p) / unsigned_abs (number q)) ≡ int_div (number p) (number q)
quotient_is p q h =
    sym (quotient_signs (is_negative p) (is_negative q) (unsigned_abs (number p)) (unsigned_abs (number q)) h)
    ∙ ap (int_div (with_sign (is_negative p) (unsigned_abs (number p)))) (sym (number_signs q))
    ∙ ap (λ z. int_div z (number q)) (sym (number_signs p))

pub remainder_is : (p q : LeafValue) → with_sign (is_negative p) (unsigned_abs (number p) % unsigned_abs (number q)) ≡ int_rem (number p) (number q)
remainder_is p q =
    sym (remainder_signs (is_negative p) (is_negative q) (unsigned_abs (number p)) (unsigned_abs (number q)))
    ∙ ap (int_rem (with_sign (is_negative p) (unsigned_abs (number p)))) (sym (number_signs q))
    ∙ ap (λ z. int_rem z (number q)) (sym (number_signs p))

-- ---- orders
unequal : (s t : Bool) → not (beq s t) ≡ true → s ≡ t → ⊥
unequal true true h e = absurd (false≢true h)
unequal true false h e = absurd (false≢true (sym e))
unequal false true h e = absurd (false≢true e)
unequal false false h e = absurd (false≢true h)

pub equal : (s t : Bool) → not (beq s t) ≡ false → s ≡ t
equal true true h = refl
equal true false h = absurd (false≢true (sym h))
equal false true h = absurd (false≢true (sym h))
equal false false h = refl

pub below_signs : (p q : LeafValue) (s t : Bool) → s ≡ is_negative p → t ≡ is_negative q → not (beq s t) ≡ true → s ≡ int_lt (number p) (number q)
below_signs p q s t es et h =
    es ∙ below_differ (is_negative p) (is_negative q) (2 ^ length p.digits) (2 ^ length q.digits) (number_of p.digits) (number_of q.digits) (number_of-lt p.digits) (number_of-lt q.digits) (λ e. unequal s t h (es ∙ e ∙ sym et))
