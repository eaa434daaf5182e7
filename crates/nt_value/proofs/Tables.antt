-- The operators of two leaves, on their words.
use Rattle.std.proofs.Common.{◌≡◌, ℕ, ◌+◌, ◌-◌, ◌%◌, min, max, refl, bit_and, bit_or}
use Rattle.std.specs.Int.Bits.{bit_xor}
use Rattle.nt_value.proofs.Bitwise.{Words, IsOperator, without, and_half, and_low, or_half, or_low, xor_half, xor_low, without_half, without_low}
use Rattle.nt_value.specs.Logic.{and_digit, or_digit, xor_digit, xnor_digit, merge_digit, wire_digit}
use Rattle.nt_value.specs.Stored.{digit_of, at_bit}

-- two tables that agree at all bits agree at lowest bits
pub same_table : {X : Type 0} (f g : ℕ → ℕ → ℕ → ℕ → X) → f 0 0 0 0 ≡ g 0 0 0 0 → f 0 0 0 1 ≡ g 0 0 0 1 → f 0 0 1 0 ≡ g 0 0 1 0 → f 0 0 1 1 ≡ g 0 0 1 1 → f 0 1 0 0 ≡ g 0 1 0 0 → f 0 1 0 1 ≡ g 0 1 0 1 → f 0 1 1 0 ≡ g 0 1 1 0 → f 0 1 1 1 ≡ g 0 1 1 1 → f 1 0 0 0 ≡ g 1 0 0 0 → f 1 0 0 1 ≡ g 1 0 0 1 → f 1 0 1 0 ≡ g 1 0 1 0 → f 1 0 1 1 ≡ g 1 0 1 1 → f 1 1 0 0 ≡ g 1 1 0 0 → f 1 1 0 1 ≡ g 1 1 0 1 → f 1 1 1 0 ≡ g 1 1 1 0 → f 1 1 1 1 ≡ g 1 1 1 1 → (a b c d : ℕ) → f (a % 2) (b % 2) (c % 2) (d % 2) ≡ g (a % 2) (b % 2) (c % 2) (d % 2)
same_table f g p0 p1 p2 p3 p4 p5 p6 p7 p8 p9 pa pb pc pd pe pf a b c d =
    at_bit (λ a. f a (b % 2) (c % 2) (d % 2) ≡ g a (b % 2) (c % 2) (d % 2))
    (at_bit (λ b. f 0 b (c % 2) (d % 2) ≡ g 0 b (c % 2) (d % 2))
    (at_bit (λ c. f 0 0 c (d % 2) ≡ g 0 0 c (d % 2)) (at_bit (λ d. f 0 0 0 d ≡ g 0 0 0 d) p0 p1 d) (at_bit (λ d. f 0 0 1 d ≡ g 0 0 1 d) p2 p3 d) c)
    (at_bit (λ c. f 0 1 c (d % 2) ≡ g 0 1 c (d % 2)) (at_bit (λ d. f 0 1 0 d ≡ g 0 1 0 d) p4 p5 d) (at_bit (λ d. f 0 1 1 d ≡ g 0 1 1 d) p6 p7 d) c)
    b)
    (at_bit (λ b. f 1 b (c % 2) (d % 2) ≡ g 1 b (c % 2) (d % 2))
    (at_bit (λ c. f 1 0 c (d % 2) ≡ g 1 0 c (d % 2)) (at_bit (λ d. f 1 0 0 d ≡ g 1 0 0 d) p8 p9 d) (at_bit (λ d. f 1 0 1 d ≡ g 1 0 1 d) pa pb d) c)
    (at_bit (λ c. f 1 1 c (d % 2) ≡ g 1 1 c (d % 2)) (at_bit (λ d. f 1 1 0 d ≡ g 1 1 0 d) pc pd d) (at_bit (λ d. f 1 1 1 d ≡ g 1 1 1 d) pe pf d) c)
    b)
    a

-- ---- `&`
abbrev pub and_ones : Words
and_ones m a b c d = bit_and (bit_or a b) (bit_or c d)

abbrev pub and_unknown : Words
and_unknown m a b c d = bit_and (bit_and (bit_or a b) (bit_or c d)) (bit_or b d)

pub and_words : IsOperator and_digit and_ones and_unknown
and_words = record {
  ones_half = λ m a b c d. simp (and_half, or_half);
  ones_none = refl;
  unknown_half = λ m a b c d. simp (and_half, or_half);
  unknown_none = refl;
  digit = λ m a b c d low. simp (and_low, or_low)
      (same_table (λ a b c d. digit_of (min (max a b) (max c d)) (min (min (max a b) (max c d)) (max b d))) (λ a b c d. and_digit (digit_of a b) (digit_of c d)) refl refl refl refl refl refl refl refl refl refl refl refl refl refl refl refl a b c d);
}

-- ---- `|`
abbrev pub or_ones : Words
or_ones m a b c d = bit_or (bit_or (bit_or a b) c) d

abbrev pub or_unknown : Words
or_unknown m a b c d = bit_xor (bit_or (bit_or (bit_or a b) c) d) (bit_or (without a b) (without c d))

pub or_words : IsOperator or_digit or_ones or_unknown
unfolding without
or_words = record {
  ones_half = λ m a b c d. simp or_half;
  ones_none = refl;
  unknown_half = λ m a b c d. simp (or_half, xor_half, without_half);
  unknown_none = refl;
  digit = λ m a b c d low. simp (or_low, xor_low, without_low)
      (same_table (λ a b c d. digit_of (max (max (max a b) c) d) ((max (max (max a b) c) d + max (a - b) (c - d)) % 2)) (λ a b c d. or_digit (digit_of a b) (digit_of c d)) refl refl refl refl refl refl refl refl refl refl refl refl refl refl refl refl a b c d);
}

-- ---- `^`
abbrev pub xor_ones : Words
xor_ones m a b c d = bit_or (bit_xor a c) (bit_or b d)

abbrev pub xor_unknown : Words
xor_unknown m a b c d = bit_or b d

pub xor_words : IsOperator xor_digit xor_ones xor_unknown
xor_words = record {
  ones_half = λ m a b c d. simp (or_half, xor_half);
  ones_none = refl;
  unknown_half = λ m a b c d. simp or_half;
  unknown_none = refl;
  digit = λ m a b c d low. simp (or_low, xor_low)
      (same_table (λ a b c d. digit_of (max ((a + c) % 2) (max b d)) (max b d)) (λ a b c d. xor_digit (digit_of a b) (digit_of c d)) refl refl refl refl refl refl refl refl refl refl refl refl refl refl refl refl a b c d);
}

-- ---- `~^`
abbrev pub xnor_ones : Words
xnor_ones m a b c d = bit_or (bit_xor (bit_xor a c) m) (bit_or b d)

abbrev pub xnor_unknown : Words
xnor_unknown m a b c d = bit_or b d

pub xnor_words : IsOperator xnor_digit xnor_ones xnor_unknown
xnor_words = record {
  ones_half = λ m a b c d. simp (or_half, xor_half);
  ones_none = refl;
  unknown_half = λ m a b c d. simp or_half;
  unknown_none = refl;
  digit = λ m a b c d low. simp (or_low, xor_low, low)
      (same_table (λ a b c d. digit_of (max (((a + c) % 2 + 1) % 2) (max b d)) (max b d)) (λ a b c d. xnor_digit (digit_of a b) (digit_of c d)) refl refl refl refl refl refl refl refl refl refl refl refl refl refl refl refl a b c d);
}

-- ---- `?:` on an unknown test
abbrev pub merge_ones : Words
merge_ones m a b c d = bit_or a (bit_or (bit_or (bit_xor a c) b) d)

abbrev pub merge_unknown : Words
merge_unknown m a b c d = bit_or (bit_or (bit_xor a c) b) d

pub merge_words : IsOperator merge_digit merge_ones merge_unknown
merge_words = record {
  ones_half = λ m a b c d. simp (or_half, xor_half);
  ones_none = refl;
  unknown_half = λ m a b c d. simp (or_half, xor_half);
  unknown_none = refl;
  digit = λ m a b c d low. simp (or_low, xor_low)
      (same_table (λ a b c d. digit_of (max a (max (max ((a + c) % 2) b) d)) (max (max ((a + c) % 2) b) d)) (λ a b c d. merge_digit (digit_of a b) (digit_of c d)) refl refl refl refl refl refl refl refl refl refl refl refl refl refl refl refl a b c d);
}

-- ---- two drivers of a wire
abbrev pub wire_ones : Words
wire_ones m a b c d = bit_or a c

abbrev pub wire_unknown : Words
wire_unknown m a b c d = bit_xor (bit_or a c) (bit_and (bit_xor a b) (bit_xor c d))

pub wire_words : IsOperator wire_digit wire_ones wire_unknown
wire_words = record {
  ones_half = λ m a b c d. simp or_half;
  ones_none = refl;
  unknown_half = λ m a b c d. simp (and_half, or_half, xor_half);
  unknown_none = refl;
  digit = λ m a b c d low. simp (and_low, or_low, xor_low)
      (same_table (λ a b c d. digit_of (max a c) ((max a c + min ((a + b) % 2) ((c + d) % 2)) % 2)) (λ a b c d. wire_digit (digit_of a b) (digit_of c d)) refl refl refl refl refl refl refl refl refl refl refl refl refl refl refl refl a b c d);
}
