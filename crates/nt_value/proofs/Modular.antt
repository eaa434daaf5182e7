-- Whole numbers and words modulo 2 to the power of a width.
use Rattle.std.proofs.Common.{◌≡◌, ℕ, zero, suc, ◌+◌, ◌-◌, ◌*◌, ◌/◌, ◌%◌, ◌^◌, ◌≤◌, List, ◌∷◌, Bool, true, false, map, replicate, refl, sym, ap, ◌∙◌, arith, bit_and, ℤ, pos, negsuc, neg_ℤ, ◌+ℤ◌, ◌*ℤ◌}
use Rattle.std.proofs.lemmas.Int.{ints}
use borrow.Author.Differences.{up, down}
use Rattle.std.specs.Prelude.{◌==◌, if◌then◌else◌}
use Rattle.std.proofs.lemmas.Nat.{and_mask, div-add-mod'}
use Rattle.std.proofs.Math.Nat.{pow-suc}
use Rattle.nt_value.specs.declared.digit.Digit.{Digit}
use Rattle.nt_value.specs.declared.digit.Digit.TheVariants.{Zero, One, X}
use Rattle.nt_value.specs.declared.leaf.Leaf.{Leaf}
use Rattle.nt_value.specs.Arithmetic.{low_digits}
use Rattle.nt_value.specs.Logic.{not_digit}
use Rattle.nt_value.specs.Operators.{in_leaf, two_state}
use Rattle.nt_value.specs.Stored.{at_bit, digits_of}
use Rattle.nt_value.specs.Values.{binary, default_leaf}
use Rattle.nt_value.proofs.Words.{digits_of-known, leaf_value}

-- ---- digits of congruent numbers
multiple_step : (k w : ℕ) → k * 2 ^ suc w ≡ k * 2 ^ w * 2
multiple_step k w = let e : k * 2 ^ suc w ≡ k * (2 ^ w * 2) = ap (λ p. k * p) (pow-suc 2 w) in omega arith

binary_same : (w m n j k : ℕ) → m + j * 2 ^ w ≡ n + k * 2 ^ w → binary w m ≡ binary w n
binary_same zero m n j k h = refl
binary_same (suc w) m n j k h =
    let ej = multiple_step j w in
    let ek = multiple_step k w in
    let low : m % 2 ≡ n % 2 = omega arith in
    let half : m / 2 + j * 2 ^ w ≡ n / 2 + k * 2 ^ w = omega arith in
    rw (low, binary_same w (m / 2) (n / 2) j k half) refl

-- the digits of -(m + 1) are those of m, each turned
binary_turned : (w m n j k : ℕ) → m + n + 1 + j * 2 ^ w ≡ k * 2 ^ w → map not_digit (binary w m) ≡ binary w n
binary_turned zero m n j k h = refl
binary_turned (suc w) m n j k h =
    let ej = multiple_step j w in
    let ek = multiple_step k w in
    let low : n % 2 ≡ 1 - m % 2 = omega arith in
    let half : m / 2 + n / 2 + 1 + j * 2 ^ w ≡ k * 2 ^ w = omega arith in
    rw (low, binary_turned w (m / 2) (n / 2) j k half)
    (ap (λ d. d ∷ binary w (n / 2)) (at_bit (λ b. not_digit (if b == 1 then One else Zero) ≡ (if 1 - b == 1 then One else Zero)) refl refl m))

-- a whole number and a word that differ by a multiple of 2 ^ width
pub record IsLow (width : ℕ) (z : ℤ) (word : ℕ) : Type 0 where
  pub up : ℕ
  pub down : ℕ
  pub same : z +ℤ pos (down * 2 ^ width) ≡ pos (word + up * 2 ^ width)

pub low_digits_is : (w : ℕ) (z : ℤ) (n : ℕ) → IsLow w z n → low_digits w z ≡ binary w n
low_digits_is w (pos m) n h = let e = h.same in binary_same w m n h.down h.up (omega (arith, ints))
low_digits_is w (negsuc m) n h = let e = h.same in binary_turned w m n h.up h.down (omega (arith, ints))

-- ---- the operators keep this
pub low_same : (w n : ℕ) → IsLow w (pos n) n
low_same w n = record { up = 0; down = 0; same = refl }

pub low_sum : (w : ℕ) (y z : ℤ) (m n : ℕ) → IsLow w y m → IsLow w z n → IsLow w (y +ℤ z) (m + n)
low_sum w y z m n a b =
    let ea = a.same in
    let eb = b.same in record {
      up = a.up + b.up;
      down = a.down + b.down;
      same = omega (arith, ints);
    }

pub low_negation : (w : ℕ) (z : ℤ) (n whole k : ℕ) → IsLow w z n → whole ≡ k * 2 ^ w → n ≤ whole → IsLow w (neg_ℤ z) (whole - n)
low_negation w z n whole k b e h =
    let eb = b.same in record {
      up = b.down;
      down = b.up + k;
      same = omega (arith, ints);
    }

-- the product of y = a - b with z = c - d
product_words : (a b c d m n p j k s t : ℕ) → a + j * p ≡ m + k * p + b → c + s * p ≡ n + t * p + d → a * c + b * d + (j * c + k * d + m * s) * p ≡ m * n + (k * c + j * d + m * t) * p + (a * d + b * c)
product_words a b c d m n p j k s t e f =
    let ec : (a + j * p) * c ≡ (m + k * p + b) * c = ap (λ x. x * c) e in
    let ed : (a + j * p) * d ≡ (m + k * p + b) * d = ap (λ x. x * d) e in
    let fm : m * (c + s * p) ≡ m * (n + t * p + d) = ap (λ x. m * x) f in
    omega arith

pub low_product : (w : ℕ) (y z : ℤ) (m n : ℕ) → IsLow w y m → IsLow w z n → IsLow w (y *ℤ z) (m * n)
low_product w y z m n a b =
    let ea : up y + a.down * 2 ^ w ≡ m + a.up * 2 ^ w + down y = (let e = a.same in omega (arith, ints)) in
    let eb : up z + b.down * 2 ^ w ≡ n + b.up * 2 ^ w + down z = (let e = b.same in omega (arith, ints)) in
    let whole = product_words (up y) (down y) (up z) (down z) m n (2 ^ w) a.down a.up b.down b.up ea eb in record {
      up = a.up * up z + a.down * down z + m * b.up;
      down = a.down * up z + a.up * down z + m * b.down;
      same = omega (arith, ints);
    }

-- ---- leaves
two_state_binary : (w v : ℕ) → map two_state (binary w v) ≡ binary w v
two_state_binary zero v = refl
two_state_binary (suc w) v =
    rw (two_state_binary w (v / 2))
    (ap (λ d. d ∷ binary w (v / 2)) (at_bit (λ b. two_state (if b == 1 then One else Zero) ≡ (if b == 1 then One else Zero)) refl refl v))

same_states : (four : Bool) (ds : List Digit) → map two_state ds ≡ ds → (if four then ds else map two_state ds) ≡ ds
same_states true ds h = refl
same_states false ds h = h

-- known digits stay as they are in a leaf of two states
pub in_leaf-binary : (leaf : Leaf) (v : ℕ) → in_leaf leaf (binary leaf.width v) ≡ leaf_value leaf (binary leaf.width v)
in_leaf-binary leaf v =
    ap (λ (ds : List Digit). leaf_value leaf ds) (same_states leaf.four (binary leaf.width v) (two_state_binary leaf.width v))

two_state_x : (w : ℕ) → map two_state (replicate w X) ≡ replicate w Zero
two_state_x zero = refl
two_state_x (suc w) = ap (λ (ds : List Digit). Zero ∷ ds) (two_state_x w)

x_states : (four : Bool) (w : ℕ) → replicate w (if four then X else Zero) ≡ (if four then replicate w X else map two_state (replicate w X))
x_states true w = refl
x_states false w = sym (two_state_x w)

pub all_x_value : (leaf : Leaf) → default_leaf leaf ≡ in_leaf leaf (replicate leaf.width X)
all_x_value leaf = ap (λ (ds : List Digit). leaf_value leaf ds) (x_states leaf.four leaf.width)

-- the lowest bits of a word
binary_masked : (w v : ℕ) → binary w (bit_and v (2 ^ w - 1)) ≡ binary w v
binary_masked w v =
    ap (binary w) (and_mask v w)
    ∙ binary_same w (v % 2 ^ w) v (v / 2 ^ w) 0 (omega (arith, div-add-mod' v (2 ^ w)))

pub wrapped_value : (leaf : Leaf) (v low : ℕ) → low ≡ 2 ^ leaf.width - 1 → leaf_value leaf (digits_of leaf.width (bit_and v low) 0) ≡ in_leaf leaf (low_digits leaf.width (pos v))
wrapped_value leaf v low e =
    ap (λ n. leaf_value leaf (digits_of leaf.width (bit_and v n) 0)) e
    ∙ ap (λ (ds : List Digit). leaf_value leaf ds) (digits_of-known leaf.width (bit_and v (2 ^ leaf.width - 1)) ∙ binary_masked leaf.width v)
    ∙ sym (in_leaf-binary leaf v)
