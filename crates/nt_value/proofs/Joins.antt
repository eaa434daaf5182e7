-- All digits of a leaf joined by an operator, by its words.
use Rattle.std.proofs.Common.{◌≡◌, ℕ, zero, suc, ◌+◌, ◌-◌, ◌/◌, ◌%◌, ◌^◌, ◌<◌, max, List, [], ◌∷◌, Bool, true, false, ◌&&◌, nat_eq, refl, sym, ap, ◌∙◌, arith, bit_or}
use Rattle.std.specs.Prelude.{◌||◌, if◌then◌else◌}
use Rattle.std.specs.Int.RustNames.{count_ones}
use Rattle.std.specs.Int.Count.{ones, ones_step}
use Rattle.nt_value.specs.declared.bits.Bits.TheInside.{Inside}
use Rattle.nt_value.specs.declared.digit.Digit.{Digit}
use Rattle.nt_value.specs.declared.digit.Digit.TheVariants.{Zero, One, X, Z}
use Rattle.nt_value.specs.Digits.{LeafValue, is_known, all_known, is_one}
use Rattle.nt_value.specs.Logic.{and_digit, or_digit, xor_digit, reduced, any_one, truth_of}
use Rattle.nt_value.specs.Stored.{digit_of, digits_of, at_bit, halved, seen_bits, IsStored}
use Rattle.nt_value.proofs.Bitwise.{or_half, or_low, ones_low, ones_half}
use Rattle.nt_value.proofs.Truths.{equal_step}

-- what holds at 0 and 1 holds of the lowest bits of two words
at_bits : (P : ℕ → ℕ → Type 0) → P 0 0 → P 0 1 → P 1 0 → P 1 1 → (v u : ℕ) → P (v % 2) (u % 2)
at_bits P p q r s v u =
    at_bit (λ a. P a (u % 2)) (at_bit (λ b. P 0 b) p q u) (at_bit (λ b. P 1 b) r s u) v

-- ---- by `&`
abbrev and_join : Bool → Bool → Digit
and_join none_zero none_unknown = if none_zero then (if none_unknown then One else X) else Zero

and_more : (v u : ℕ) (s t : Bool) → and_digit (digit_of (v % 2) (u % 2)) (and_join s t) ≡ and_join (nat_eq (max (v % 2) (u % 2)) 1 && s) (nat_eq (u % 2) 0 && t)
and_more v u true true =
    at_bits (λ a b. and_digit (digit_of a b) One ≡ and_join (nat_eq (max a b) 1 && true) (nat_eq b 0 && true)) refl refl refl refl v u
and_more v u true false =
    at_bits (λ a b. and_digit (digit_of a b) X ≡ and_join (nat_eq (max a b) 1 && true) (nat_eq b 0 && false)) refl refl refl refl v u
and_more v u false t =
    at_bits (λ a b. and_digit (digit_of a b) Zero ≡ and_join (nat_eq (max a b) 1 && false) (nat_eq b 0 && t)) refl refl refl refl v u

joined_and : (n v u : ℕ) → v < 2 ^ n → u < 2 ^ n → reduced and_digit One (digits_of n v u) ≡ and_join (nat_eq (bit_or v u) (2 ^ n - 1)) (nat_eq u 0)
unfolding digits_of
joined_and zero v u hv hu =
    let ev : v ≡ 0 = omega arith in
    let eu : u ≡ 0 = omega arith in
    rw (ev, eu) refl
joined_and (suc n) v u hv hu =
    rw (equal_step (bit_or v u) (2 ^ suc n - 1), ones_low n, ones_half n, or_low v u, or_half v u, equal_step u 0, joined_and n (v / 2) (u / 2) (halved n v hv) (halved n u hu))
    (and_more v u (nat_eq (bit_or (v / 2) (u / 2)) (2 ^ n - 1)) (nat_eq (u / 2) 0))

pub seen_joined_and : (a : Inside) (p : LeafValue) → seen_bits a ≡ p → IsStored a → reduced and_digit One p.digits ≡ (if nat_eq (bit_or a.ones a.unknown) (2 ^ a.leaf.width - 1) then (if nat_eq a.unknown 0 then One else X) else Zero)
seen_joined_and a p ea s =
    sym (ap (λ (x : LeafValue). reduced and_digit One x.digits) ea) ∙ joined_and a.leaf.width a.ones a.unknown s.ones s.unknown

-- ---- by `|`
or_more : (d : Digit) (s t : Bool) → or_digit d (if s then One else (if t then Zero else X)) ≡ (if is_one d || s then One else (if is_known d && t then Zero else X))
or_more Zero true t = refl
or_more Zero false true = refl
or_more Zero false false = refl
or_more One s t = refl
or_more X true t = refl
or_more X false true = refl
or_more X false false = refl
or_more Z true t = refl
or_more Z false true = refl
or_more Z false false = refl

pub joined_or : (ds : List Digit) → reduced or_digit Zero ds ≡ truth_of ds
joined_or [] = refl
joined_or (d ∷ ds) = ap (or_digit d) (joined_or ds) ∙ or_more d (any_one ds) (all_known ds)

-- ---- by `^`
abbrev xor_join : Bool → Bool → Digit
xor_join none_unknown is_even = if none_unknown then (if is_even then Zero else One) else X

xor_more : (v u k : ℕ) (t : Bool) → xor_digit (digit_of (v % 2) (u % 2)) (xor_join t (nat_eq (k % 2) 0)) ≡ xor_join (nat_eq (u % 2) 0 && t) (nat_eq ((v % 2 + k % 2) % 2) 0)
xor_more v u k true =
    at_bit (λ j. xor_digit (digit_of (v % 2) (u % 2)) (xor_join true (nat_eq j 0)) ≡ xor_join (nat_eq (u % 2) 0 && true) (nat_eq ((v % 2 + j) % 2) 0))
    (at_bits (λ a b. xor_digit (digit_of a b) Zero ≡ xor_join (nat_eq b 0 && true) (nat_eq ((a + 0) % 2) 0)) refl refl refl refl v u)
    (at_bits (λ a b. xor_digit (digit_of a b) One ≡ xor_join (nat_eq b 0 && true) (nat_eq ((a + 1) % 2) 0)) refl refl refl refl v u)
    k
xor_more v u k false =
    at_bits (λ a b. xor_digit (digit_of a b) X ≡ xor_join (nat_eq b 0 && false) (nat_eq ((a + k % 2) % 2) 0)) refl refl refl refl v u

joined_xor : (n v u : ℕ) → v < 2 ^ n → u < 2 ^ n → reduced xor_digit Zero (digits_of n v u) ≡ xor_join (nat_eq u 0) (nat_eq (ones v % 2) 0)
unfolding digits_of ones
joined_xor zero v u hv hu =
    let ev : v ≡ 0 = omega arith in
    let eu : u ≡ 0 = omega arith in
    rw (ev, eu) refl
joined_xor (suc n) v u hv hu =
    let parity : ones v % 2 ≡ (v % 2 + ones (v / 2) % 2) % 2 = omega (arith, ones_step v) in
    rw (parity, equal_step u 0, joined_xor n (v / 2) (u / 2) (halved n v hv) (halved n u hu))
    (xor_more v u (ones (v / 2)) (nat_eq (u / 2) 0))

pub seen_joined_xor : (a : Inside) (p : LeafValue) → seen_bits a ≡ p → IsStored a → reduced xor_digit Zero p.digits ≡ (if nat_eq a.unknown 0 then (if nat_eq (count_ones a.ones % 2) 0 then Zero else One) else X)
seen_joined_xor a p ea s =
    sym (ap (λ (x : LeafValue). reduced xor_digit Zero x.digits) ea) ∙ joined_xor a.leaf.width a.ones a.unknown s.ones s.unknown
