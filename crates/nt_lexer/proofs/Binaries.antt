-- Binary digits of numbers and of leaves.
use Rattle.std.proofs.Common.{◌≡◌, add-one, ℕ, zero, suc, ◌+◌, ◌-◌, ◌*◌, ◌/◌, ◌%◌, ◌^◌, ◌<◌, ◌≤◌, if◌then◌else◌, List, [], ◌∷◌, ◌++◌, take, drop, get_or, replicate, reverse, Some, None, refl, sym, ap, ◌∙◌, arith}
use Rattle.std.specs.Prelude.{◌==◌, slice_set}
use Rattle.std.proofs.Math.Arith.{mod-mul}
use Rattle.std.proofs.Math.Nat.{pow-suc}
use Rattle.std.proofs.lemmas.Nat.{pow_pos, one_shl}
use Rattle.nt_value.specs.Digits.{LeafValue}
use Rattle.nt_value.specs.declared.leaf.Leaf.{Leaf}
use Rattle.nt_value.specs.Arithmetic.{padded}
use Rattle.nt_value.specs.Values.{binary}
use Rattle.nt_value.specs.declared.digit.Digit.{Digit}
use Rattle.nt_value.specs.declared.digit.Digit.TheVariants.{Zero, One}
use Rattle.nt_lexer.specs.Numbers.{digit_bits, group, group_of, unknown_of, digit_value, low_bit}
use Rattle.nt_lexer.specs.declared.kinds.Radix.{Radix}
use Rattle.nt_lexer.specs.declared.kinds.Radix.TheVariants as r

-- the last digits of four
abbrev last_of : ℕ → List Digit → List Digit
last_of from ds = take (4 - from) (drop from ds)

from_is : (n from : ℕ) → from + n ≡ 4 → from ≡ 4 - n
from_is n from e = omega (arith, e)

pub unknown_group : (radix : Radix) (b from : ℕ) (u : Digit) → from + digit_bits radix ≡ 4 → unknown_of b ≡ Some u
    → last_of from (u ∷ u ∷ u ∷ u ∷ []) ≡ group radix b
unfolding group
unknown_group radix b from u e is = ap (λ k. last_of k (u ∷ u ∷ u ∷ u ∷ [])) (from_is (digit_bits radix) from e) ∙ by radix ∙ sym (ap (group_of (digit_bits radix) b) is)
  where
    by : (radix : Radix) → last_of (4 - digit_bits radix) (u ∷ u ∷ u ∷ u ∷ []) ≡ replicate (digit_bits radix) u
    by r.Binary = refl
    by r.Octal = refl
    by r.Decimal = refl
    by r.Hex = refl

pub known_group : (radix : Radix) (b from v : ℕ) (d1 d2 d3 d4 : Digit) → from + digit_bits radix ≡ 4 → unknown_of b ≡ None → v ≡ digit_value b
    → d1 ≡ low_bit (v / 2 / 2 / 2) → d2 ≡ low_bit (v / 2 / 2) → d3 ≡ low_bit (v / 2) → d4 ≡ low_bit v
    → last_of from (d1 ∷ d2 ∷ d3 ∷ d4 ∷ []) ≡ group radix b
unfolding group
known_group radix b from v d1 d2 d3 d4 e is ve e1 e2 e3 e4 =
    ap (λ k. last_of k (d1 ∷ d2 ∷ d3 ∷ d4 ∷ [])) (from_is (digit_bits radix) from e)
    ∙ ap (λ d. last_of (4 - digit_bits radix) (d ∷ d2 ∷ d3 ∷ d4 ∷ [])) e1
    ∙ ap (λ d. last_of (4 - digit_bits radix) (low_bit (v / 2 / 2 / 2) ∷ d ∷ d3 ∷ d4 ∷ [])) e2
    ∙ ap (λ d. last_of (4 - digit_bits radix) (low_bit (v / 2 / 2 / 2) ∷ low_bit (v / 2 / 2) ∷ d ∷ d4 ∷ [])) e3
    ∙ ap (λ d. last_of (4 - digit_bits radix) (low_bit (v / 2 / 2 / 2) ∷ low_bit (v / 2 / 2) ∷ low_bit (v / 2) ∷ d ∷ [])) e4
    ∙ by v radix ∙ ap (λ n. reverse (binary (digit_bits radix) n)) ve ∙ sym (ap (group_of (digit_bits radix) b) is)
  where
    by : (v : ℕ) (radix : Radix) → last_of (4 - digit_bits radix) (low_bit (v / 2 / 2 / 2) ∷ low_bit (v / 2 / 2) ∷ low_bit (v / 2) ∷ low_bit v ∷ []) ≡ reverse (binary (digit_bits radix) v)
    by v r.Binary = refl
    by v r.Octal = refl
    by v r.Decimal = refl
    by v r.Hex = refl

-- one digit more of a leaf
pub fit_step : (at m : ℕ) (fill : Digit) (ds : List Digit)
    → slice_set (padded at fill ds ++ replicate (suc m) Zero) at (get_or ds at fill) ≡ padded (suc at) fill ds ++ replicate m Zero
fit_step zero m fill [] = refl
fit_step zero m fill (d ∷ ds) = refl
fit_step (suc at) m fill [] = ap (λ xs. fill ∷ xs) (fit_step at m fill [])
fit_step (suc at) m fill (d ∷ ds) = ap (λ xs. d ∷ xs) (fit_step at m fill ds)

-- the low digits of a number are those of its remainder
pub binary_low : (w k n : ℕ) → w ≤ k → binary w (n % 2 ^ k) ≡ binary w n
binary_low zero k n le = refl
binary_low (suc w) zero n le = absurd (omega arith)
binary_low (suc w) (suc k) n le =
    let e : n % 2 ^ suc k ≡ (n / 2 % 2 ^ k) * 2 + n % 2 = ap (λ m. n % m) (pow-suc 2 k) ∙ mod-mul n {m = 2 ^ k} {c = 2} (pow_pos k) (omega arith) in
    let low : n % 2 ^ suc k % 2 ≡ n % 2 = omega (arith, e) in
    let high : n % 2 ^ suc k / 2 ≡ n / 2 % 2 ^ k = omega (arith, e) in
    ap (λ m. low_of m ∷ binary w (n % 2 ^ suc k / 2)) low ∙ ap (λ m. low_of (n % 2) ∷ binary w m) high ∙ ap (λ ds. low_of (n % 2) ∷ ds) (binary_low w k (n / 2) (omega arith))
  where
    low_of : ℕ → Digit
    low_of m = if m == 1 then One else Zero

-- one digit more of the leaf that is filled
pub fit_next : (leaf : Leaf) (at : ℕ) (fill d : Digit) (ds : List Digit) (bits result : LeafValue) → at < leaf.width
    → bits ≡ record { leaf = leaf; digits = padded at fill ds ++ replicate (leaf.width - at) Zero } → d ≡ get_or ds at fill
    → result ≡ record { leaf = bits.leaf; digits = slice_set bits.digits at d }
    → result ≡ record { leaf = leaf; digits = padded (at + 1) fill ds ++ replicate (leaf.width - (at + 1)) Zero }
fit_next leaf at fill d ds bits result lt before de is =
    let one : leaf.width - at ≡ suc (leaf.width - (at + 1)) = omega arith in
    is ∙ ap (λ b. with b.leaf (slice_set b.digits at d)) before ∙ ap (λ x. with leaf (slice_set (padded at fill ds ++ replicate (leaf.width - at) Zero) at x)) de
    ∙ ap (λ n. with leaf (slice_set (padded at fill ds ++ replicate n Zero) at (get_or ds at fill))) one
    ∙ ap (λ xs. with leaf xs) (fit_step at (leaf.width - (at + 1)) fill ds)
    ∙ ap (λ j. with leaf (padded j fill ds ++ replicate (leaf.width - (at + 1)) Zero)) (sym (add-one at))
  where
    with : Leaf → List Digit → LeafValue
    with leaf digits = record { leaf = leaf; digits = digits }

-- the low digits of a decimal number
pub decimal_low : (w f low dec : ℕ) → w ≤ 64 → f ≡ low → low ≡ dec % 18446744073709551616
    → binary w (f % (1 * 2 ^ w % 340282366920938463463374607431768211456)) ≡ binary w dec
decimal_low w f low dec le e is =
    ap (λ m. binary w (f % m)) (one_shl w 128 (omega arith)) ∙ binary_low w w f (omega arith) ∙ ap (binary w) (e ∙ is) ∙ binary_low w 64 dec le
