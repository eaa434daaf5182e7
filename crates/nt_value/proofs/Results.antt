-- Operators on the words of known digits.
use Rattle.std.proofs.Common.{◌≡◌, ℕ, ◌+◌, ◌-◌, ◌*◌, ◌/◌, ◌%◌, ◌^◌, ◌<◌, ◌≤◌, length, Bool, true, false, refl, sym, ap, ◌∙◌, subst, arith, ℤ, pos, neg_ℤ, ◌+ℤ◌, ◌-ℤ◌, ◌*ℤ◌, int_lt, nat_lt, not}
use Rattle.std.specs.Prelude.{if◌then◌else◌, unsigned_abs}
use Rattle.std.proofs.lemmas.Int.{ints}
use Rattle.std.proofs.lemmas.Bool.{and_parts}
use Rattle.std.proofs.lemmas.Nat.{pow-add, div-add-mod'}
use Rattle.std.proofs.Math.Bool.{beq}
use Rattle.std.proofs.Math.Nat.{pow-le-pow_right}
use Rattle.nt_value.specs.declared.bits.Bits.TheInside.{Inside}
use Rattle.nt_value.specs.declared.leaf.Leaf.{Leaf}
use Rattle.nt_value.specs.declared.operator.Binary.TheVariants.{Add, Sub, Mul, Div, Rem}
use Rattle.nt_value.specs.declared.operator.Unary.TheVariants.{Plus, Minus}
use Rattle.nt_value.specs.Arithmetic.{low_digits}
use Rattle.nt_value.specs.Digits.{LeafValue, all_known, number_of}
use Rattle.nt_value.specs.Operators.{in_leaf, number, both_known, can_divide, calculated, unary_of, binary_of}
use Rattle.nt_value.specs.Stored.{seen_bits, IsStored}
use Rattle.nt_value.proofs.Modular.{IsLow, low_same, low_digits_is, low_sum, low_negation, low_product}
use Rattle.nt_value.proofs.Signs.{is_negative, value_low, number_of-lt, signed_number, absolute_is, below_same, with_sign, divisor_positive, quotient_is, remainder_is, equal}
use Rattle.nt_value.proofs.Words.{length-digits_of, seen_number}

-- ---- numbers
-- the words of known digits, as a method sees them
pub record IsKnown (a : Inside) (p : LeafValue) : Type 0 where
  pub view : seen_bits a ≡ p
  pub stored : IsStored a
  pub known : all_known p.digits ≡ true

pub both_seen : (a b : Inside) (p q : LeafValue) → seen_bits a ≡ p → seen_bits b ≡ q → IsStored a → IsStored b → both_known p q ≡ true → IsKnown a p × IsKnown b q
both_seen a b p q ea eb sa sb k =
    let parts = and_parts (all_known p.digits) (all_known q.digits) k in (
      record { view = ea; stored = sa; known = parts.0 },
      record { view = eb; stored = sb; known = parts.1 },
    )

-- a number by its word
number_words : (a : Inside) (p : LeafValue) → IsKnown a p → number p ≡ (if is_negative p then neg_ℤ (pos (2 ^ length p.digits - a.ones)) else pos a.ones)
number_words a p k = rw (seen_number a p k.view k.stored k.known) refl

seen_length : (a : Inside) (p : LeafValue) → seen_bits a ≡ p → length p.digits ≡ a.leaf.width
seen_length a p ea =
    ap (λ x. length x.digits) (sym ea) ∙ length-digits_of a.leaf.width a.ones a.unknown

seen_value : (a : Inside) (p : LeafValue) → IsKnown a p → number p ≡ (if is_negative p then neg_ℤ (pos (2 ^ a.leaf.width - a.ones)) else pos a.ones)
seen_value a p k =
    number_words a p k ∙ ap (λ w. if is_negative p then neg_ℤ (pos (2 ^ w - a.ones)) else pos a.ones) (seen_length a p k.view)

seen_low : (a : Inside) (p : LeafValue) → IsKnown a p → IsLow a.leaf.width (number p) a.ones
seen_low a p k =
    subst (λ z. IsLow a.leaf.width z a.ones) (sym (seen_value a p k)) (value_low (is_negative p) a.leaf.width a.ones k.stored.ones)

-- ---- words of 64 bits
whole_word : (w : ℕ) → w ≤ 64 → 2 ^ 64 ≡ 2 ^ (64 - w) * 2 ^ w
whole_word w h =
    let e : 64 - w + w ≡ 64 = omega arith in
    ap (λ n. 2 ^ n) (sym e) ∙ pow-add 2 (64 - w) w

low_wrapped : (w : ℕ) (z : ℤ) (n : ℕ) → w ≤ 64 → IsLow w z n → IsLow w z (n % 2 ^ 64)
low_wrapped w z n h b =
    let e = b.same in
    let whole : n / 2 ^ 64 * 2 ^ 64 ≡ n / 2 ^ 64 * (2 ^ (64 - w) * 2 ^ w) = ap (λ p. n / 2 ^ 64 * p) (whole_word w h) in
    let split = div-add-mod' n (2 ^ 64) in record {
      up = b.up + n / 2 ^ 64 * 2 ^ (64 - w);
      down = b.down;
      same = omega (arith, ints);
    }

-- ---- results
-- a word in a leaf is the result that it is congruent to
calculated_is : (a : Inside) (p : LeafValue) (known : Bool) (z : ℤ) (n : ℕ) → seen_bits a ≡ p → known ≡ true → IsLow a.leaf.width z n → in_leaf a.leaf (low_digits a.leaf.width (pos n)) ≡ calculated p.leaf known z
calculated_is a p known z n ea k b =
    ap (in_leaf a.leaf) (sym (low_digits_is a.leaf.width z n b))
    ∙ ap (λ (x : LeafValue). in_leaf x.leaf (low_digits x.leaf.width z)) ea
    ∙ ap (λ t. calculated p.leaf t z) (sym k)

-- a result that is there
result_is : (a : Inside) (p : LeafValue) (there : Bool) (y z : ℤ) → seen_bits a ≡ p → there ≡ true → y ≡ z → in_leaf a.leaf (low_digits a.leaf.width y) ≡ calculated p.leaf there z
result_is a p there y z ea t e =
    ap (λ x. in_leaf a.leaf (low_digits a.leaf.width x)) e
    ∙ ap (λ (x : LeafValue). in_leaf x.leaf (low_digits x.leaf.width z)) ea
    ∙ ap (λ b. calculated p.leaf b z) (sym t)

-- what `0.wrapping_sub` computes
from_zero : (w : ℕ) (z : ℤ) (n : ℕ) → IsLow w z n → IsLow w z (0 + n)
from_zero w z n b =
    let e : n ≡ 0 + n = omega arith in
    subst (λ m. IsLow w z m) e b

pub negated_value : (leaf : Leaf) (v : ℕ) → leaf.width ≤ 64 → v < 2 ^ 64 → in_leaf leaf (low_digits leaf.width (pos ((0 + (2 ^ 64 - v)) % 2 ^ 64))) ≡ in_leaf leaf (low_digits leaf.width (neg_ℤ (pos v)))
negated_value leaf v h f =
    let w = leaf.width in
    let less = low_negation w (pos v) v (2 ^ 64) (2 ^ (64 - w)) (low_same w v) (whole_word w h) (omega arith) in
    ap (in_leaf leaf) (sym (low_digits_is w (neg_ℤ (pos v)) _ (low_wrapped w (neg_ℤ (pos v)) _ h (from_zero w _ _ less))))

below_whole : (w v : ℕ) → w ≤ 64 → v < 2 ^ w → v ≤ 2 ^ 64
below_whole w v h f =
    let two : 0 < 2 = omega arith in
    let more : 2 ^ w ≤ 2 ^ 64 = pow-le-pow_right two h in
    omega arith

negation_low : (a : Inside) (p : LeafValue) → IsKnown a p → IsLow a.leaf.width (neg_ℤ (number p)) (2 ^ 64 - a.ones)
negation_low a p k =
    let w = a.leaf.width in
    let s = k.stored in
    low_negation w (number p) a.ones (2 ^ 64) (2 ^ (64 - w)) (seen_low a p k) (whole_word w s.high) (below_whole w a.ones s.high s.ones)

-- ---- one operand
pub seen_plus : (a : Inside) (p : LeafValue) → IsKnown a p → in_leaf a.leaf (low_digits a.leaf.width (pos a.ones)) ≡ unary_of Plus p
seen_plus a p k = calculated_is a p (all_known p.digits) (number p) a.ones k.view k.known (seen_low a p k)

pub seen_minus : (a : Inside) (p : LeafValue) → IsKnown a p → in_leaf a.leaf (low_digits a.leaf.width (pos ((0 + (2 ^ 64 - a.ones)) % 2 ^ 64))) ≡ unary_of Minus p
seen_minus a p k =
    calculated_is a p (all_known p.digits) (neg_ℤ (number p)) _ k.view k.known (low_wrapped a.leaf.width _ _ k.stored.high (from_zero a.leaf.width _ _ (negation_low a p k)))

-- ---- two operands
same_width : (a b : Inside) (p q : LeafValue) → IsKnown a p → IsKnown b q → p.leaf ≡ q.leaf → b.leaf.width ≡ a.leaf.width
same_width a b p q k l e =
    ap (λ x. x.leaf.width) l.view ∙ ap (λ x. x.width) (sym e) ∙ ap (λ x. x.leaf.width) (sym k.view)

-- the second operand, at the width of the first
other_low : (a b : Inside) (p q : LeafValue) → IsKnown a p → IsKnown b q → p.leaf ≡ q.leaf → IsLow a.leaf.width (number q) b.ones
other_low a b p q k l e =
    subst (λ w. IsLow w (number q) b.ones) (same_width a b p q k l e) (seen_low b q l)

both_is : (p q : LeafValue) (a b : Inside) → IsKnown a p → IsKnown b q → both_known p q ≡ true
both_is p q a b k l = rw (k.known, l.known) refl

pub seen_sum : (a b : Inside) (p q : LeafValue) → IsKnown a p → IsKnown b q → p.leaf ≡ q.leaf → in_leaf a.leaf (low_digits a.leaf.width (pos ((a.ones + b.ones) % 2 ^ 64))) ≡ binary_of Add p q
seen_sum a b p q k l e =
    let w = a.leaf.width in
    let sum = low_sum w (number p) (number q) a.ones b.ones (seen_low a p k) (other_low a b p q k l e) in
    calculated_is a p (both_known p q) (number p +ℤ number q) _ k.view (both_is p q a b k l) (low_wrapped w _ _ k.stored.high sum)

pub seen_difference : (a b : Inside) (p q : LeafValue) → IsKnown a p → IsKnown b q → p.leaf ≡ q.leaf → in_leaf a.leaf (low_digits a.leaf.width (pos ((a.ones + (2 ^ 64 - b.ones)) % 2 ^ 64))) ≡ binary_of Sub p q
seen_difference a b p q k l e =
    let w = a.leaf.width in
    let minus = subst (λ v. IsLow v (neg_ℤ (number q)) (2 ^ 64 - b.ones)) (same_width a b p q k l e) (negation_low b q l) in
    let sum = low_sum w (number p) (neg_ℤ (number q)) a.ones (2 ^ 64 - b.ones) (seen_low a p k) minus in
    calculated_is a p (both_known p q) (number p -ℤ number q) _ k.view (both_is p q a b k l) (low_wrapped w _ _ k.stored.high sum)

pub seen_product : (a b : Inside) (p q : LeafValue) → IsKnown a p → IsKnown b q → p.leaf ≡ q.leaf → in_leaf a.leaf (low_digits a.leaf.width (pos ((a.ones * b.ones) % 2 ^ 64))) ≡ binary_of Mul p q
seen_product a b p q k l e =
    let w = a.leaf.width in
    let product = low_product w (number p) (number q) a.ones b.ones (seen_low a p k) (other_low a b p q k l e) in
    calculated_is a p (both_known p q) (number p *ℤ number q) _ k.view (both_is p q a b k l) (low_wrapped w _ _ k.stored.high product)

pub seen_absolute : (a : Inside) (p : LeafValue) → IsKnown a p → unsigned_abs (number p) ≡ (if is_negative p then 2 ^ p.leaf.width - number_of p.digits else a.ones)
seen_absolute a p k =
    let long : length p.digits ≡ p.leaf.width = seen_length a p k.view ∙ ap (λ x. x.leaf.width) k.view in
    absolute_is (is_negative p) (2 ^ length p.digits) (number_of p.digits)
    ∙ ap (λ w. if is_negative p then 2 ^ w - number_of p.digits else number_of p.digits) long
    ∙ ap (λ v. if is_negative p then 2 ^ p.leaf.width - number_of p.digits else v) (sym (seen_number a p k.view k.stored k.known))

pub seen_quotient : (a : Inside) (p q : LeafValue) (s t : Bool) (m n : ℕ) → seen_bits a ≡ p → can_divide p q ≡ true → s ≡ is_negative p → t ≡ is_negative q → m ≡ unsigned_abs (number p) → n ≡ unsigned_abs (number q) → in_leaf a.leaf (low_digits a.leaf.width (with_sign (not (beq s t)) (m / n))) ≡ binary_of Div p q
seen_quotient a p q s t m n ea can es et em en =
    rw (es, et, em, en) (result_is a p (can_divide p q) _ _ ea can (quotient_is p q (divisor_positive p q can)))

pub seen_remainder : (a : Inside) (p q : LeafValue) (s : Bool) (m n : ℕ) → seen_bits a ≡ p → can_divide p q ≡ true → s ≡ is_negative p → m ≡ unsigned_abs (number p) → n ≡ unsigned_abs (number q) → in_leaf a.leaf (low_digits a.leaf.width (with_sign s (m % n))) ≡ binary_of Rem p q
seen_remainder a p q s m n ea can es em en =
    rw (es, em, en) (result_is a p (can_divide p q) _ _ ea can (remainder_is p q))

pub below_words : (a b : Inside) (p q : LeafValue) (s t : Bool) → IsKnown a p → IsKnown b q → p.leaf ≡ q.leaf → s ≡ is_negative p → t ≡ is_negative q → not (beq s t) ≡ false → nat_lt a.ones b.ones ≡ int_lt (number p) (number q)
below_words a b p q s t k l leaf es et h =
    let long : length q.digits ≡ length p.digits = seen_length b q l.view ∙ same_width a b p q k l leaf ∙ sym (seen_length a p k.view) in
    let low : number_of q.digits < 2 ^ length p.digits = subst (λ n. number_of q.digits < 2 ^ n) long (number_of-lt q.digits) in
    ap (λ n. nat_lt n b.ones) (seen_number a p k.view k.stored k.known)
    ∙ ap (λ n. nat_lt (number_of p.digits) n) (seen_number b q l.view l.stored l.known)
    ∙ below_same (is_negative p) (is_negative q) (2 ^ length p.digits) (number_of p.digits) (number_of q.digits) (number_of-lt p.digits) low (sym es ∙ equal s t h ∙ et)
    ∙ ap (λ n. int_lt (number p) (signed_number (is_negative q) (2 ^ n) (number_of q.digits))) (sym long)
