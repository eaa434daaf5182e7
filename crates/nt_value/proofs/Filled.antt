-- What operators answer has the digits of its leaf.
use Rattle.std.proofs.Common.{◌≡◌, ℕ, zero, suc, ◌+◌, List, [], ◌∷◌, ◌++◌, length, map, replicate, Bool, true, false, ◌&&◌, refl, sym, ap, ◌∙◌, arith}
use Rattle.std.specs.Prelude.{◌==◌, ◌||◌, All, if◌then◌else◌, ℤ, pos, negsuc}
use Rattle.std.proofs.lemmas.Bool.{and_from, and_parts, eq-eqb, eqb-true, false≢true, true≢false}
use Rattle.std.proofs.lemmas.List.{length-append, length-map, length-replicate}
use Rattle.std.proofs.lemmas.List.Elements.{All-cons, All-head, All-tail}
use Rattle.nt_value.proofs.Congruence.{length-binary}
use Rattle.nt_value.specs.Arithmetic.{digits_or_x, fill_of, low_digits, moved_down, moved_up, padded}
use Rattle.nt_value.specs.Digits.{LeafValue, IsFilled, all_known, are_filled, is_filled}
use Rattle.nt_value.specs.Logic.{and_digit, merge_digit, not_digit, or_digit, pairwise, xnor_digit, xor_digit}
use Rattle.nt_value.specs.Operators.{AreOperands, binary_of, calculated, choice_of, concat_of, in_leaf, one_digit, resize_of, shifted, two_state, unary_of, unsigned_leaf}
use Rattle.nt_value.specs.Values.{binary, default_leaf, default_value}
use Rattle.nt_value.specs.declared.digit.Digit.{Digit}
use Rattle.nt_value.specs.declared.digit.Digit.TheVariants.{Zero, One, X, Z}
use Rattle.nt_value.specs.declared.leaf.Leaf.{Leaf}
use Rattle.nt_value.specs.declared.operator.Binary.{Binary}
use Rattle.nt_value.specs.declared.operator.Binary.TheVariants as op
use Rattle.nt_value.specs.declared.operator.Unary.{Unary}
use Rattle.nt_value.specs.declared.operator.Unary.TheVariants as unary

-- ---- the test
or_back : (a b : Bool) → a || b ≡ true → a ≡ false → b ≡ true
or_back true b h k = absurd (true≢false k)
or_back false b h k = h

or_from : (a b : Bool) → (a ≡ false → b ≡ true) → a || b ≡ true
or_from true b h = refl
or_from false b h = h refl

pub filled_back : (a : LeafValue) → is_filled a ≡ true → IsFilled a
filled_back a h =
    let parts = and_parts (length a.digits == a.leaf.width) (a.leaf.four || all_known a.digits) h in
    record {
      long = eqb-true (length a.digits) a.leaf.width parts.0;
      two = or_back a.leaf.four (all_known a.digits) parts.1;
    }

pub filled_test : (a : LeafValue) → IsFilled a → is_filled a ≡ true
filled_test a h =
    and_from (length a.digits == a.leaf.width) (a.leaf.four || all_known a.digits)
    (eq-eqb (length a.digits) a.leaf.width h.long)
    (or_from a.leaf.four (all_known a.digits) h.two)

pub all_filled_back : (leaves : List LeafValue) → are_filled leaves ≡ true → All IsFilled leaves
all_filled_back [] h = λ k i low. absurd (omega (arith, low))
all_filled_back (a ∷ leaves) h =
    let parts = and_parts (is_filled a) (are_filled leaves) h in
    All-cons IsFilled a leaves (filled_back a parts.0) (all_filled_back leaves parts.1)

pub all_filled_test : (leaves : List LeafValue) → All IsFilled leaves → are_filled leaves ≡ true
all_filled_test [] h = refl
all_filled_test (a ∷ leaves) h =
    and_from (is_filled a) (are_filled leaves) (filled_test a (All-head IsFilled a leaves h)) (all_filled_test leaves (All-tail IsFilled a leaves h))

-- ---- digits in a leaf
two_known : (ds : List Digit) → all_known (map two_state ds) ≡ true
two_known [] = refl
two_known (Zero ∷ ds) = two_known ds
two_known (One ∷ ds) = two_known ds
two_known (X ∷ ds) = two_known ds
two_known (Z ∷ ds) = two_known ds

in_long : (four : Bool) (ds : List Digit) → length (if four then ds else map two_state ds) ≡ length ds
in_long true ds = refl
in_long false ds = length-map ds two_state

in_known : (four : Bool) (ds : List Digit) → four ≡ false → all_known (if four then ds else map two_state ds) ≡ true
in_known true ds h = absurd (true≢false h)
in_known false ds h = two_known ds

pub in_filled : (leaf : Leaf) (ds : List Digit) → length ds ≡ leaf.width → IsFilled (in_leaf leaf ds)
in_filled leaf ds h = record { long = in_long leaf.four ds ∙ h; two = in_known leaf.four ds }

pub one_filled : (four : Bool) (d : Digit) → IsFilled (one_digit four d)
one_filled four d = in_filled (unsigned_leaf 1 four) (d ∷ []) refl

-- ---- lengths
low_long : (width : ℕ) (z : ℤ) → length (low_digits width z) ≡ width
low_long width (pos n) = length-binary width n
low_long width (negsuc n) = length-map (binary width n) not_digit ∙ length-binary width n

calculated_long : (width : ℕ) (is_there : Bool) (z : ℤ) → length (digits_or_x width is_there z) ≡ width
calculated_long width true z = low_long width z
calculated_long width false z = length-replicate width X

calculated_filled : (leaf : Leaf) (is_there : Bool) (z : ℤ) → IsFilled (calculated leaf is_there z)
calculated_filled leaf is_there z =
    in_filled leaf (digits_or_x leaf.width is_there z) (calculated_long leaf.width is_there z)

pub padded_long : (width : ℕ) (fill : Digit) (ds : List Digit) → length (padded width fill ds) ≡ width
padded_long zero fill ds = refl
padded_long (suc width) fill [] = ap suc (padded_long width fill [])
padded_long (suc width) fill (d ∷ ds) = ap suc (padded_long width fill ds)

pairwise_long : (f : Digit → Digit → Digit) (ds es : List Digit) → length ds ≡ length es → length (pairwise f ds es) ≡ length ds
pairwise_long f [] es h = refl
pairwise_long f (d ∷ ds) [] h = absurd (omega (arith, h))
pairwise_long f (d ∷ ds) (e ∷ es) h = ap suc (pairwise_long f ds es (omega (arith, h)))

pub pairwise_filled : (f : Digit → Digit → Digit) (a b : LeafValue) → IsFilled a → IsFilled b → a.leaf ≡ b.leaf → IsFilled (in_leaf a.leaf (pairwise f a.digits b.digits))
pairwise_filled f a b h k same =
    in_filled a.leaf (pairwise f a.digits b.digits)
    (pairwise_long f a.digits b.digits (h.long ∙ (ap (λ (l : Leaf). l.width) same ∙ sym k.long)) ∙ h.long)

-- ---- operators
pub unary_filled : (o : Unary) (a : LeafValue) → IsFilled a → IsFilled (unary_of o a)
unary_filled unary.Plus a h = calculated_filled _ _ _
unary_filled unary.Minus a h = calculated_filled _ _ _
unary_filled unary.Not a h = in_filled a.leaf (map not_digit a.digits) (length-map a.digits not_digit ∙ h.long)
unary_filled unary.LogicalNot a h = one_filled _ _
unary_filled unary.RedAnd a h = one_filled _ _
unary_filled unary.RedNand a h = one_filled _ _
unary_filled unary.RedOr a h = one_filled _ _
unary_filled unary.RedNor a h = one_filled _ _
unary_filled unary.RedXor a h = one_filled _ _
unary_filled unary.RedXnor a h = one_filled _ _

if_long : (b : Bool) (ds es : List Digit) (n : ℕ) → length ds ≡ n → length es ≡ n → length (if b then ds else es) ≡ n
if_long true ds es n h k = h
if_long false ds es n h k = k

shifted_filled : (a amount : LeafValue) (ds : List Digit) → length ds ≡ a.leaf.width → IsFilled (shifted a amount ds)
shifted_filled a amount ds h =
    in_filled a.leaf (if all_known amount.digits then ds else replicate a.leaf.width X)
    (if_long (all_known amount.digits) ds (replicate a.leaf.width X) a.leaf.width h (length-replicate a.leaf.width X))

pub binary_filled : (o : Binary) (a b : LeafValue) → IsFilled a → IsFilled b → AreOperands o a b → IsFilled (binary_of o a b)
binary_filled op.Add a b h k same = calculated_filled _ _ _
binary_filled op.Sub a b h k same = calculated_filled _ _ _
binary_filled op.Mul a b h k same = calculated_filled _ _ _
binary_filled op.Div a b h k same = calculated_filled _ _ _
binary_filled op.Rem a b h k same = calculated_filled _ _ _
binary_filled op.And a b h k same = pairwise_filled and_digit a b h k (same refl)
binary_filled op.Or a b h k same = pairwise_filled or_digit a b h k (same refl)
binary_filled op.Xor a b h k same = pairwise_filled xor_digit a b h k (same refl)
binary_filled op.Xnor a b h k same = pairwise_filled xnor_digit a b h k (same refl)
binary_filled op.Shl a b h k same = shifted_filled a b (moved_up _ a.digits) (padded_long _ _ _ ∙ h.long)
binary_filled op.Shr a b h k same = shifted_filled a b (moved_down Zero _ a.digits) (padded_long _ _ _ ∙ h.long)
binary_filled op.Sshr a b h k same =
    shifted_filled a b (moved_down (fill_of a.leaf.signed a.digits) _ a.digits) (padded_long _ _ _ ∙ h.long)
binary_filled op.Lt a b h k same = one_filled _ _
binary_filled op.Le a b h k same = one_filled _ _
binary_filled op.Gt a b h k same = one_filled _ _
binary_filled op.Ge a b h k same = one_filled _ _
binary_filled op.Eq a b h k same = one_filled _ _
binary_filled op.Ne a b h k same = one_filled _ _
binary_filled op.CaseEq a b h k same = one_filled _ _
binary_filled op.CaseNe a b h k same = one_filled _ _
binary_filled op.LogicalAnd a b h k same = one_filled _ _
binary_filled op.LogicalOr a b h k same = one_filled _ _

pub choice_filled : (d : Digit) (a b : LeafValue) → IsFilled a → IsFilled b → a.leaf ≡ b.leaf → IsFilled (choice_of d a b)
choice_filled One a b h k same = h
choice_filled Zero a b h k same = k
choice_filled X a b h k same = pairwise_filled merge_digit a b h k same
choice_filled Z a b h k same = pairwise_filled merge_digit a b h k same

pub resize_filled : (a : LeafValue) (to : Leaf) → IsFilled (resize_of a to)
resize_filled a to = in_filled to (padded to.width (fill_of to.signed a.digits) a.digits) (padded_long _ _ _)

-- ---- concatenations
neither : (a b : Bool) → a || b ≡ false → (a ≡ false) × (b ≡ false)
neither true b h = absurd (true≢false h)
neither false b h = (refl, h)

pub known_append : (ds es : List Digit) → all_known ds ≡ true → all_known es ≡ true → all_known (ds ++ es) ≡ true
known_append [] es h k = k
known_append (Zero ∷ ds) es h k = known_append ds es h k
known_append (One ∷ ds) es h k = known_append ds es h k
known_append (X ∷ ds) es h k = absurd (false≢true h)
known_append (Z ∷ ds) es h k = absurd (false≢true h)

pub concat_filled : (a b : LeafValue) → IsFilled a → IsFilled b → IsFilled (concat_of a b)
concat_filled a b h k = record {
  long = omega (arith, length-append b.digits a.digits, h.long, k.long);
  two = λ e.
      let both = neither a.leaf.four b.leaf.four e in
      known_append b.digits a.digits (k.two both.1) (h.two both.0);
}

-- ---- defaults
pub zeros_known : (n : ℕ) → all_known (replicate n Zero) ≡ true
zeros_known zero = refl
zeros_known (suc n) = zeros_known n

default_known : (four : Bool) (n : ℕ) → four ≡ false → all_known (replicate n (if four then X else Zero)) ≡ true
default_known true n h = absurd (true≢false h)
default_known false n h = zeros_known n

pub default_leaf_filled : (leaf : Leaf) → IsFilled (default_leaf leaf)
default_leaf_filled leaf = record {
  long = length-replicate leaf.width (if leaf.four then X else Zero);
  two = default_known leaf.four leaf.width;
}

pub default_filled : (shape : List Leaf) → All IsFilled (default_value shape)
default_filled [] = λ k i low. absurd (omega (arith, low))
default_filled (leaf ∷ shape) =
    All-cons IsFilled (default_leaf leaf) (default_value shape) (default_leaf_filled leaf) (default_filled shape)
