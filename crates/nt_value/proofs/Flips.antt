-- Words with one bit changed.
use Rattle.std.proofs.Common.{◌≡◌, ℕ, zero, suc, ◌+◌, ◌-◌, ◌*◌, ◌/◌, ◌%◌, ◌^◌, ◌<◌, max, min, List, ◌∷◌, Bool, true, false, refl, sym, ap, subst, ◌∙◌, arith, bit_and, bit_or}
use Rattle.std.specs.Int.Bits.{and_step, or_step, or_zero_r}
use Rattle.std.specs.Prelude.{slice_set}
use Rattle.std.proofs.lemmas.Nat.{pow_pos, and_mask}
use Rattle.std.proofs.Math.Nat.{pow-suc, mod-eq_of_lt}
use Rattle.std.proofs.Math.Pow.{pow-lt}
use Rattle.std.proofs.lemmas.Bool.{false≢true}
use Rattle.nt_value.proofs.Words.{leaf_value}
use Rattle.nt_value.specs.declared.bits.Bits.TheInside.{Inside}
use Rattle.nt_value.specs.declared.digit.Digit.{Digit}
use Rattle.nt_value.specs.declared.digit.Digit.TheVariants.{Zero, One, X, Z}
use Rattle.nt_value.specs.Changes.{with_bit_at}
use Rattle.nt_value.specs.Digits.{LeafValue, is_known, IsDigitOf}
use Rattle.nt_value.specs.Stored.{at_bit, bit_of, digit_of, digits_of, halved, is_one_bit, is_unknown_bit, seen_bits, IsStored}

-- ---- the words that the code makes
max_one : (v : ℕ) → max (v % 2) 1 ≡ 1
max_one v = at_bit (λ b. max b 1 ≡ 1) refl refl v

max_zero : (v : ℕ) → max (v % 2) 0 ≡ v % 2
max_zero v = at_bit (λ b. max b 0 ≡ b) refl refl v

min_one : (v : ℕ) → min (v % 2) 1 ≡ v % 2
min_one v = at_bit (λ b. min b 1 ≡ b) refl refl v

min_zero : (v : ℕ) → min (v % 2) 0 ≡ 0
min_zero v = at_bit (λ b. min b 0 ≡ 0) refl refl v

pub with_bit_at-true : (v k : ℕ) → bit_or v (2 ^ k) ≡ with_bit_at v k true
unfolding with_bit_at
with_bit_at-true v zero = omega (arith, or_step v 1, or_zero_r (v / 2), max_one v)
with_bit_at-true v (suc k) =
    let e : 2 ^ suc k ≡ 2 ^ k * 2 = pow-suc 2 k in
    let low : 2 ^ suc k % 2 ≡ 0 = omega arith in
    let half : 2 ^ suc k / 2 ≡ 2 ^ k = omega arith in
    let step : bit_or v (2 ^ suc k) ≡ bit_or (v / 2) (2 ^ k) * 2 + max (v % 2) 0 = rw (low, half) at (or_step v (2 ^ suc k)) in
    omega (arith, step, max_zero v, with_bit_at-true (v / 2) k)

pub with_bit_at-false : (n v k : ℕ) → k < n → v < 2 ^ n → bit_and v (2 ^ n - 1 - 2 ^ k) ≡ with_bit_at v k false
unfolding with_bit_at
with_bit_at-false zero v k h l = absurd (omega arith)
with_bit_at-false (suc n) v zero h l =
    let e : 2 ^ suc n ≡ 2 ^ n * 2 = pow-suc 2 n in
    let p : 0 < 2 ^ n = pow_pos n in
    let low : (2 ^ suc n - 1 - 1) % 2 ≡ 0 = omega arith in
    let half : (2 ^ suc n - 1 - 1) / 2 ≡ 2 ^ n - 1 = omega arith in
    let step : bit_and v (2 ^ suc n - 1 - 1) ≡ bit_and (v / 2) (2 ^ n - 1) * 2 + min (v % 2) 0 = rw (low, half) at (and_step v (2 ^ suc n - 1 - 1)) in
    let whole : v / 2 % 2 ^ n ≡ v / 2 = mod-eq_of_lt (halved n v l) in
    omega (arith, step, min_zero v, and_mask (v / 2) n, whole)
with_bit_at-false (suc n) v (suc k) h l =
    let e : 2 ^ suc n ≡ 2 ^ n * 2 = pow-suc 2 n in
    let f : 2 ^ suc k ≡ 2 ^ k * 2 = pow-suc 2 k in
    let p : 2 ^ k < 2 ^ n = (let q : k < n = omega arith in pow-lt q) in
    let low : (2 ^ suc n - 1 - 2 ^ suc k) % 2 ≡ 1 = omega arith in
    let half : (2 ^ suc n - 1 - 2 ^ suc k) / 2 ≡ 2 ^ n - 1 - 2 ^ k = omega arith in
    let step : bit_and v (2 ^ suc n - 1 - 2 ^ suc k) ≡ bit_and (v / 2) (2 ^ n - 1 - 2 ^ k) * 2 + min (v % 2) 1 = rw (low, half) at (and_step v (2 ^ suc n - 1 - 2 ^ suc k)) in
    omega (arith, step, min_one v, with_bit_at-false n (v / 2) k (omega arith) (halved n v l))

-- a bit that fits into a word of 64
one_shifted : (k : ℕ) → k < 64 → 1 * 2 ^ k % 2 ^ 64 ≡ 2 ^ k
one_shifted k h =
    let e : 1 * 2 ^ k ≡ 2 ^ k = omega arith in
    rw e (mod-eq_of_lt (pow-lt h))

pub set_bit : (v k : ℕ) → k < 64 → bit_or v (1 * 2 ^ k % 2 ^ 64) ≡ with_bit_at v k true
set_bit v k h = ap (bit_or v) (one_shifted k h) ∙ with_bit_at-true v k

pub clear_bit : (v k : ℕ) → v < 2 ^ 64 → k < 64 → bit_and v (2 ^ 64 - 1 - 1 * 2 ^ k % 2 ^ 64) ≡ with_bit_at v k false
clear_bit v k l h = ap (λ b. bit_and v (2 ^ 64 - 1 - b)) (one_shifted k h) ∙ with_bit_at-false 64 v k h l

-- ---- what the changed words hold
bit_low : (b : Bool) (v : ℕ) → (bit_of b + v / 2 * 2) % 2 ≡ bit_of b
bit_low true v = omega arith
bit_low false v = omega arith

bit_half : (b : Bool) (v : ℕ) → (bit_of b + v / 2 * 2) / 2 ≡ v / 2
bit_half true v = omega arith
bit_half false v = omega arith

rest_low : (v w : ℕ) → (v % 2 + w * 2) % 2 ≡ v % 2
rest_low v w = omega arith

rest_half : (v w : ℕ) → (v % 2 + w * 2) / 2 ≡ w
rest_half v w = omega arith

pub digits_of-with_bit_at : (n v u k : ℕ) (b c : Bool) → digits_of n (with_bit_at v k b) (with_bit_at u k c) ≡ slice_set (digits_of n v u) k (digit_of (bit_of b) (bit_of c))
unfolding digits_of with_bit_at
digits_of-with_bit_at zero v u k b c = refl
digits_of-with_bit_at (suc n) v u zero b c =
    rw (bit_low b v, bit_low c u, bit_half b v, bit_half c u) refl
digits_of-with_bit_at (suc n) v u (suc k) b c =
    rw (rest_low v (with_bit_at (v / 2) k b), rest_low u (with_bit_at (u / 2) k c), rest_half v (with_bit_at (v / 2) k b), rest_half u (with_bit_at (u / 2) k c))
    (ap (λ (ds : List Digit). digit_of (v % 2) (u % 2) ∷ ds) (digits_of-with_bit_at n (v / 2) (u / 2) k b c))

pub with_bit_at-lt : (n v k : ℕ) (b : Bool) → k < n → v < 2 ^ n → with_bit_at v k b < 2 ^ n
unfolding with_bit_at
with_bit_at-lt zero v k b h l = absurd (omega arith)
with_bit_at-lt (suc n) v zero true h l = let e : 2 ^ suc n ≡ 2 ^ n * 2 = pow-suc 2 n in omega arith
with_bit_at-lt (suc n) v zero false h l = let e : 2 ^ suc n ≡ 2 ^ n * 2 = pow-suc 2 n in omega arith
with_bit_at-lt (suc n) v (suc k) b h l =
    let e : 2 ^ suc n ≡ 2 ^ n * 2 = pow-suc 2 n in
    let more = with_bit_at-lt n (v / 2) k b (omega arith) (halved n v l) in
    omega arith

pub with_bit_at-zero : (k : ℕ) → with_bit_at 0 k false ≡ 0
unfolding with_bit_at
with_bit_at-zero zero = refl
with_bit_at-zero (suc k) = let more = with_bit_at-zero k in omega arith

pub digit_back : (d : Digit) → digit_of (bit_of (is_one_bit d)) (bit_of (is_unknown_bit d)) ≡ d
digit_back Zero = refl
digit_back One = refl
digit_back X = refl
digit_back Z = refl

-- the words of one changed digit
pub seen_with_digit : (a : Inside) (p : LeafValue) (k : ℕ) (d : Digit) → seen_bits a ≡ p → leaf_value a.leaf (digits_of a.leaf.width (with_bit_at a.ones k (is_one_bit d)) (with_bit_at a.unknown k (is_unknown_bit d))) ≡ leaf_value p.leaf (slice_set p.digits k d)
seen_with_digit a p k d e =
    ap (leaf_value a.leaf) (digits_of-with_bit_at a.leaf.width a.ones a.unknown k (is_one_bit d) (is_unknown_bit d))
    ∙ ap (λ b. leaf_value a.leaf (slice_set (seen_bits a).digits k b)) (digit_back d)
    ∙ ap (λ (v : LeafValue). leaf_value v.leaf (slice_set v.digits k d)) e

-- a digit of two states leaves no unknown digit
two_states : (a : Inside) (k : ℕ) (d : Digit) → a.unknown ≡ 0 → is_known d ≡ true → with_bit_at a.unknown k (is_unknown_bit d) ≡ 0
two_states a k Zero e h = rw e (with_bit_at-zero k)
two_states a k One e h = rw e (with_bit_at-zero k)
two_states a k X e h = absurd (false≢true h)
two_states a k Z e h = absurd (false≢true h)

pub stored_with_digit : (a : Inside) (p : LeafValue) (k : ℕ) (d : Digit) → seen_bits a ≡ p → IsStored a → k < p.leaf.width → IsDigitOf p.leaf d → IsStored (record a { ones = with_bit_at a.ones k (is_one_bit d); unknown = with_bit_at a.unknown k (is_unknown_bit d) })
stored_with_digit a p k d e s h f =
    let leaf = ap (λ (v : LeafValue). v.leaf) e in
    let within : k < a.leaf.width = subst (λ n. k < n) (ap (λ l. l.width) (sym leaf)) h in record {
      low = s.low;
      high = s.high;
      ones = with_bit_at-lt a.leaf.width a.ones k (is_one_bit d) within s.ones;
      unknown = with_bit_at-lt a.leaf.width a.unknown k (is_unknown_bit d) within s.unknown;
      two = λ t. two_states a k d (s.two t) (f (ap (λ l. l.four) (sym leaf) ∙ t));
    }
