-- Decimal digits and binary digits.
use Rattle.std.proofs.Common.{◌≡◌, add-one, ℕ, ◌+◌, ◌-◌, ◌*◌, ◌%◌, ◌<◌, ◌≤◌, Bool, true, false, if◌then◌else◌, [], ◌∷◌, drop, get_or, refl, sym, ap, ◌∙◌, arith}
use Rattle.std.specs.Prelude.{◌==◌, length}
use Rattle.std.proofs.Math.Seq.{drop-cons}
use Rattle.std.proofs.lemmas.Bool.{ne_eqb, eq-eqb}
use Rattle.nt_lexer.specs.Bytes.{Bytes}
use Rattle.nt_lexer.specs.Numbers.{with_digit, decimal_from, decimal}

pub no_smaller : (n : ℕ) (bs : Bytes) → n ≤ decimal_from n bs
no_smaller n [] = omega arith
no_smaller n (b ∷ bs) = let i : with_digit n b ≤ decimal_from (with_digit n b) bs = no_smaller (with_digit n b) bs in let g : n ≤ with_digit n b = grows n b (b == 95) in omega arith
  where
    grows : (n b : ℕ) (t : Bool) → n ≤ (if t then n else 10 * n + (b - 48))
    grows n b true = omega arith
    grows n b false = omega arith

pub digit_step : (n k at : ℕ) (text : Bytes) → at < length text → decimal_from n (drop at text) ≡ decimal text → k ≡ with_digit n (get_or text at 0)
    → decimal_from k (drop (at + 1) text) ≡ decimal text
digit_step n k at text lt e is =
    let cons : drop at text ≡ get_or text at 0 ∷ drop (at + 1) text = drop-cons text at 0 lt ∙ ap (λ i. get_or text at 0 ∷ drop i text) (sym (add-one at)) in
    ap (λ j. decimal_from j (drop (at + 1) text)) is ∙ sym (ap (decimal_from n) cons) ∙ e

pub too_wide : (most n k at : ℕ) (text : Bytes) → at < length text → decimal_from n (drop at text) ≡ decimal text → k ≡ with_digit n (get_or text at 0) → most < k
    → most < decimal text
too_wide most n k at text lt e is wide = omega (arith, digit_step n k at text lt e is, no_smaller k (drop (at + 1) text), wide)

pub digit_is : (n b : ℕ) → (b ≡ 95 → ⊥) → 10 * n + (b - 48) ≡ with_digit n b
digit_is n b other = rw (ne_eqb b 95 other) refl

pub bar_is : (n b : ℕ) → b ≡ 95 → n ≡ with_digit n b
bar_is n b e = rw (eq-eqb b 95 e) refl

-- the remainder of a number that has one digit more
pub low_digit : (n d : ℕ) → (10 * (n % 18446744073709551616) + d) % 18446744073709551616 ≡ (10 * n + d) % 18446744073709551616
low_digit n d = omega arith

pub low_with_digit : (n m b : ℕ) → n % 18446744073709551616 ≡ m % 18446744073709551616 → with_digit n b % 18446744073709551616 ≡ with_digit m b % 18446744073709551616
low_with_digit n m b e = by n m (b == 95) e
  where
    by : (n m : ℕ) (t : Bool) → n % 18446744073709551616 ≡ m % 18446744073709551616
        → (if t then n else 10 * n + (b - 48)) % 18446744073709551616 ≡ (if t then m else 10 * m + (b - 48)) % 18446744073709551616
    by n m true e = e
    by n m false e = omega (arith, low_digit n (b - 48), low_digit m (b - 48), e)

pub low_from : (n m : ℕ) (bs : Bytes) → n % 18446744073709551616 ≡ m % 18446744073709551616
    → decimal_from n bs % 18446744073709551616 ≡ decimal_from m bs % 18446744073709551616
low_from n m [] e = e
low_from n m (b ∷ bs) e = low_from (with_digit n b) (with_digit m b) bs (low_with_digit n m b e)

pub low_step : (n k at : ℕ) (text : Bytes) → at < length text → decimal_from n (drop at text) % 18446744073709551616 ≡ decimal text % 18446744073709551616
    → k ≡ with_digit n (get_or text at 0) % 18446744073709551616 → decimal_from k (drop (at + 1) text) % 18446744073709551616 ≡ decimal text % 18446744073709551616
low_step n k at text lt e is =
    let cons : drop at text ≡ get_or text at 0 ∷ drop (at + 1) text = drop-cons text at 0 lt ∙ ap (λ i. get_or text at 0 ∷ drop i text) (sym (add-one at)) in
    let same : k % 18446744073709551616 ≡ with_digit n (get_or text at 0) % 18446744073709551616 = omega (arith, is) in
    low_from k (with_digit n (get_or text at 0)) (drop (at + 1) text) same ∙ sym (ap (λ t. decimal_from n t % 18446744073709551616) cons) ∙ e
