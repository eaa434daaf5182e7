-- Digits, and numbers of digits.
use Rattle.std.proofs.Common.{◌≡◌, ℕ, zero, suc, ◌+◌, ◌*◌, ◌<◌, ◌≤◌, ◌^◌, true, List, [], ◌∷◌, length, get_or, arith, add-one, nat_le}
use Rattle.std.specs.List.{list_all}
use Rattle.std.proofs.lemmas.Bool.Decides.{nat_tests}
use Rattle.nt_small.specs.Grammar.{is_digit}
use Rattle.nt_small.proofs.Spacing.{and_left, and_right}

pub digit_range : (b : ℕ) → is_digit b ≡ true → (48 ≤ b) × (b ≤ 57)
unfolding is_digit
digit_range b h =
    let low : nat_le 48 b ≡ true = and_left (nat_le 48 b) (nat_le b 57) h in
    let high : nat_le b 57 ≡ true = and_right (nat_le 48 b) (nat_le b 57) h in
    (grind (arith, nat_tests), grind (arith, nat_tests))

pub digit_at : (digits : List ℕ) (i : ℕ) → i < length digits → list_all is_digit digits ≡ true → (48 ≤ get_or digits i 0) × (get_or digits i 0 ≤ 57)
digit_at [] i h all = absurd (omega (arith, h))
digit_at (b ∷ bs) zero h all = digit_range b (and_left _ _ all)
digit_at (b ∷ bs) (suc i) h all = digit_at bs i (omega (arith, h)) (and_right _ _ all)

pub pow_more : (i : ℕ) → 10 ^ (i + 1) ≡ 10 * 10 ^ i
pow_more i = rw add-one (omega arith)
