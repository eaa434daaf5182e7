-- Digits in two words of bits.
use Rattle.std.specs.Prelude.{◌≡◌, ℕ, zero, suc, ◌+◌, ◌*◌, ◌/◌, ◌%◌, ◌^◌, ◌<◌, ◌≤◌, Bool, true, false, List, [], ◌∷◌, refl}
use Rattle.std.proofs.Common.{arith, sym, subst, inl, inr}
use Rattle.std.proofs.lemmas.Bool.{cases_eq}
use Rattle.std.proofs.Math.Nat.{pow-suc}
use Rattle.nt_value.specs.declared.digit.Digit.{Digit}
use Rattle.nt_value.specs.declared.digit.Digit.TheVariants.{Zero, One, X, Z}
use Rattle.nt_value.specs.declared.bits.Bits.TheInside.{Inside}
use Rattle.nt_value.specs.Digits.{LeafValue}

-- a digit by its two bits
abbrev pub digit_of : ℕ → ℕ → Digit
digit_of zero zero = Zero
digit_of (suc k) zero = One
digit_of (suc k) (suc j) = X
digit_of zero (suc j) = Z

-- the lowest n digits of two words
unfoldable pub digits_of : ℕ → ℕ → ℕ → List Digit
digits_of zero ones unknown = []
digits_of (suc n) ones unknown = digit_of (ones % 2) (unknown % 2) ∷ digits_of n (ones / 2) (unknown / 2)

-- the bit in the word of ones
abbrev pub is_one_bit : Digit → Bool
is_one_bit Zero = false
is_one_bit One = true
is_one_bit X = true
is_one_bit Z = false

-- the bit in the word of unknown digits
abbrev pub is_unknown_bit : Digit → Bool
is_unknown_bit Zero = false
is_unknown_bit One = false
is_unknown_bit X = true
is_unknown_bit Z = true

-- 1 for true
abbrev pub bit_of : Bool → ℕ
bit_of true = 1
bit_of false = 0

-- the number that has these bits, the lowest first
abbrev pub word_of : (Digit → Bool) → List Digit → ℕ
word_of test [] = 0
word_of test (d ∷ ds) = bit_of (test d) + word_of test ds * 2

-- the leaf and the digits that the words hold
abbrev pub seen_bits : Inside → LeafValue
seen_bits b = record { leaf = b.leaf; digits = digits_of b.leaf.width b.ones b.unknown }

-- the words that hold these digits
abbrev pub stored_bits : LeafValue → Inside
stored_bits v = record { leaf = v.leaf; ones = word_of is_one_bit v.digits; unknown = word_of is_unknown_bit v.digits }

-- no bit stands past the width, and no digit of two states is unknown
pub record IsStored (b : Inside) : Type 0 where
  pub low : 1 ≤ b.leaf.width
  pub high : b.leaf.width ≤ 64
  pub ones : b.ones < 2 ^ b.leaf.width
  pub unknown : b.unknown < 2 ^ b.leaf.width
  pub two : b.leaf.four ≡ false → b.unknown ≡ 0

-- what holds at 0 and at 1 holds at each lowest bit
pub at_bit : (P : ℕ → Type 0) → P 0 → P 1 → (n : ℕ) → P (n % 2)
at_bit P p0 p1 n =
    let low : n % 2 < 2 = omega arith in
    elim (cases_eq (n % 2) 0) [
      | inl e ↦ subst P (sym e) p0
      | inr ne ↦ let e : 1 ≡ n % 2 = omega arith in subst P e p1
    ]

one_back : (v u : ℕ) → bit_of (is_one_bit (digit_of (v % 2) (u % 2))) ≡ v % 2
one_back v u =
    at_bit (λ a. bit_of (is_one_bit (digit_of a (u % 2))) ≡ a) (at_bit (λ b. bit_of (is_one_bit (digit_of 0 b)) ≡ 0) refl refl u) (at_bit (λ b. bit_of (is_one_bit (digit_of 1 b)) ≡ 1) refl refl u) v

unknown_bit_back : (v u : ℕ) → bit_of (is_unknown_bit (digit_of (v % 2) (u % 2))) ≡ u % 2
unknown_bit_back v u =
    at_bit (λ b. bit_of (is_unknown_bit (digit_of (v % 2) b)) ≡ b) (at_bit (λ a. bit_of (is_unknown_bit (digit_of a 0)) ≡ 0) refl refl v) (at_bit (λ a. bit_of (is_unknown_bit (digit_of a 1)) ≡ 1) refl refl v) u

pub halved : (n v : ℕ) → v < 2 ^ suc n → v / 2 < 2 ^ n
halved n v h = let e : 2 ^ suc n ≡ 2 ^ n * 2 = pow-suc 2 n in omega arith

pub ones_back : (n v u : ℕ) → v < 2 ^ n → word_of is_one_bit (digits_of n v u) ≡ v
unfolding digits_of
ones_back zero v u h = omega arith
ones_back (suc n) v u h = omega (arith, one_back v u, ones_back n (v / 2) (u / 2) (halved n v h))

pub unknown_back : (n v u : ℕ) → u < 2 ^ n → word_of is_unknown_bit (digits_of n v u) ≡ u
unfolding digits_of
unknown_back zero v u h = omega arith
unknown_back (suc n) v u h = omega (arith, unknown_bit_back v u, unknown_back n (v / 2) (u / 2) (halved n u h))

-- the digits give the words back
pub stored_bits-seen_bits : (b : Inside) → IsStored b → stored_bits (seen_bits b) ≡ b
stored_bits-seen_bits b h =
    rw (ones_back b.leaf.width b.ones b.unknown h.ones, unknown_back b.leaf.width b.ones b.unknown h.unknown) refl
