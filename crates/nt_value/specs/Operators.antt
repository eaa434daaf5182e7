-- The operators on leaves, by the rules of their digits. Operands of two states have 0 and 1 alone, and so has a result
-- of two states: what would be x in it is 0 (IEEE 1800-2017, 6.3.1; that a result of operands of two states has two
-- states is this project's rule).
use Rattle.std.specs.Prelude.{◌≡◌, ℕ, ◌+◌, ◌==◌, Bool, true, false, not, ◌&&◌, ◌||◌, if◌then◌else◌, List, [], ◌∷◌, ◌++◌, map, replicate, take, drop, ℤ, neg_ℤ, ◌+ℤ◌, ◌-ℤ◌, ◌*ℤ◌, int_lt, int_le, int_div, int_rem}
use Rattle.nt_value.specs.Arithmetic.{integer_of, digits_or_x, padded, fill_of, moved_up, moved_down}
use Rattle.nt_value.specs.Digits.{LeafValue, all_known, number_of}
use Rattle.nt_value.specs.Logic.{not_digit, and_digit, or_digit, xor_digit, xnor_digit, merge_digit, wire_digit, pairwise, reduced, digit_if, truth_of, equal_of, is_same_digits}
use Rattle.nt_value.specs.declared.digit.Digit.{Digit}
use Rattle.nt_value.specs.declared.digit.Digit.TheVariants.{Zero, One, X, Z}
use Rattle.nt_value.specs.declared.leaf.Leaf.{Leaf}
use Rattle.nt_value.specs.declared.operator.Binary.{Binary}
use Rattle.nt_value.specs.declared.operator.Binary.TheVariants.{Add, Sub, Mul, Div, Rem, And, Or, Xor, Xnor, Shl, Shr, Sshr, Lt, Le, Gt, Ge, Eq, Ne, CaseEq, CaseNe, LogicalAnd, LogicalOr}
use Rattle.nt_value.specs.declared.operator.Unary.{Unary}
use Rattle.nt_value.specs.declared.operator.Unary.TheVariants.{Plus, Minus, Not, LogicalNot, RedAnd, RedNand, RedOr, RedNor, RedXor, RedXnor}

-- a digit in two states: x and z become 0 (IEEE 1800-2017, 6.3.1)
abbrev pub two_state : Digit → Digit
two_state Zero = Zero
two_state One = One
two_state X = Zero
two_state Z = Zero

-- digits in a leaf
abbrev pub in_leaf : Leaf → List Digit → LeafValue
in_leaf leaf ds = record { leaf = leaf; digits = if leaf.four then ds else map two_state ds }

-- an unsigned leaf
abbrev pub unsigned_leaf : ℕ → Bool → Leaf
unsigned_leaf width four = record { width = width; signed = false; four = four }

-- one digit, unsigned: what comparisons, logical operators and reductions answer (IEEE 1800-2017, 11.4.4 to 11.4.7,
-- 11.4.9; that the answers of logical operators and reductions are unsigned is this project's rule)
abbrev pub one_digit : Bool → Digit → LeafValue
one_digit four d = in_leaf (unsigned_leaf 1 four) (d ∷ [])

-- the number that a leaf with known digits writes
abbrev pub number : LeafValue → ℤ
number a = integer_of a.leaf.signed a.digits

-- a whole number in a leaf, or all x where there is none (IEEE 1800-2017, 11.4.3)
abbrev pub calculated : Leaf → Bool → ℤ → LeafValue
calculated leaf is_there result = in_leaf leaf (digits_or_x leaf.width is_there result)

-- no digit of the two is x or z
abbrev pub both_known : LeafValue → LeafValue → Bool
both_known a b = all_known a.digits && all_known b.digits

-- the two are known, and the second isn't 0
abbrev pub can_divide : LeafValue → LeafValue → Bool
can_divide a b = both_known a b && not (number_of b.digits == 0)

-- one of the two leaves has four states
abbrev pub either_four : LeafValue → LeafValue → Bool
either_four a b = a.leaf.four || b.leaf.four

-- a comparison of numbers: x where a digit is x or z (IEEE 1800-2017, 11.4.4)
abbrev pub compared : LeafValue → LeafValue → Bool → LeafValue
compared a b holds = one_digit (either_four a b) (if both_known a b then digit_if holds else X)

-- a shift: all x where the amount has an x or z (IEEE 1800-2017, 11.4.10)
abbrev pub shifted : LeafValue → LeafValue → List Digit → LeafValue
shifted a amount ds = in_leaf a.leaf (if all_known amount.digits then ds else replicate a.leaf.width X)

-- the operators of one operand
abbrev pub unary_of : Unary → LeafValue → LeafValue
unary_of Plus a = calculated a.leaf (all_known a.digits) (number a)
unary_of Minus a = calculated a.leaf (all_known a.digits) (neg_ℤ (number a))
unary_of Not a = in_leaf a.leaf (map not_digit a.digits)
unary_of LogicalNot a = one_digit a.leaf.four (not_digit (truth_of a.digits))
unary_of RedAnd a = one_digit a.leaf.four (reduced and_digit One a.digits)
unary_of RedNand a = one_digit a.leaf.four (not_digit (reduced and_digit One a.digits))
unary_of RedOr a = one_digit a.leaf.four (reduced or_digit Zero a.digits)
unary_of RedNor a = one_digit a.leaf.four (not_digit (reduced or_digit Zero a.digits))
unary_of RedXor a = one_digit a.leaf.four (reduced xor_digit Zero a.digits)
unary_of RedXnor a = one_digit a.leaf.four (not_digit (reduced xor_digit Zero a.digits))

-- the operators of two operands
abbrev pub binary_of : Binary → LeafValue → LeafValue → LeafValue
binary_of Add a b = calculated a.leaf (both_known a b) (number a +ℤ number b)
binary_of Sub a b = calculated a.leaf (both_known a b) (number a -ℤ number b)
binary_of Mul a b = calculated a.leaf (both_known a b) (number a *ℤ number b)
binary_of Div a b = calculated a.leaf (can_divide a b) (int_div (number a) (number b))
binary_of Rem a b = calculated a.leaf (can_divide a b) (int_rem (number a) (number b))
binary_of And a b = in_leaf a.leaf (pairwise and_digit a.digits b.digits)
binary_of Or a b = in_leaf a.leaf (pairwise or_digit a.digits b.digits)
binary_of Xor a b = in_leaf a.leaf (pairwise xor_digit a.digits b.digits)
binary_of Xnor a b = in_leaf a.leaf (pairwise xnor_digit a.digits b.digits)
binary_of Shl a b = shifted a b (moved_up (number_of b.digits) a.digits)
binary_of Shr a b = shifted a b (moved_down Zero (number_of b.digits) a.digits)
binary_of Sshr a b = shifted a b (moved_down (fill_of a.leaf.signed a.digits) (number_of b.digits) a.digits)
binary_of Lt a b = compared a b (int_lt (number a) (number b))
binary_of Le a b = compared a b (int_le (number a) (number b))
binary_of Gt a b = compared a b (int_lt (number b) (number a))
binary_of Ge a b = compared a b (int_le (number b) (number a))
binary_of Eq a b = one_digit (either_four a b) (equal_of a.digits b.digits)
binary_of Ne a b = one_digit (either_four a b) (not_digit (equal_of a.digits b.digits))
binary_of CaseEq a b = one_digit (either_four a b) (digit_if (is_same_digits a.digits b.digits))
binary_of CaseNe a b = one_digit (either_four a b) (digit_if (not (is_same_digits a.digits b.digits)))
binary_of LogicalAnd a b = one_digit (either_four a b) (and_digit (truth_of a.digits) (truth_of b.digits))
binary_of LogicalOr a b = one_digit (either_four a b) (or_digit (truth_of a.digits) (truth_of b.digits))

-- whether the operands of an operator are sized together; those of shifts and of logical operators are not
-- (IEEE 1800-2017, 11.6.1, Table 11-21)
abbrev pub is_sized_together : Binary → Bool
is_sized_together Add = true
is_sized_together Sub = true
is_sized_together Mul = true
is_sized_together Div = true
is_sized_together Rem = true
is_sized_together And = true
is_sized_together Or = true
is_sized_together Xor = true
is_sized_together Xnor = true
is_sized_together Shl = false
is_sized_together Shr = false
is_sized_together Sshr = false
is_sized_together Lt = true
is_sized_together Le = true
is_sized_together Gt = true
is_sized_together Ge = true
is_sized_together Eq = true
is_sized_together Ne = true
is_sized_together CaseEq = true
is_sized_together CaseNe = true
is_sized_together LogicalAnd = false
is_sized_together LogicalOr = false

-- operands that are sized together have one leaf
abbrev pub AreOperands : Binary → LeafValue → LeafValue → Type 0
AreOperands op a b = is_sized_together op ≡ true → a.leaf ≡ b.leaf

-- `?:` (IEEE 1800-2017, 11.4.11)
abbrev pub choice_of : Digit → LeafValue → LeafValue → LeafValue
choice_of One a b = a
choice_of Zero a b = b
choice_of X a b = in_leaf a.leaf (pairwise merge_digit a.digits b.digits)
choice_of Z a b = in_leaf a.leaf (pairwise merge_digit a.digits b.digits)

abbrev pub merge_of : LeafValue → LeafValue → LeafValue → LeafValue
merge_of test a b = choice_of (truth_of test.digits) a b

-- digits at another leaf: the low ones, or more by the sign of the new leaf
-- (IEEE 1800-2017, 10.7, 11.8.2)
abbrev pub resize_of : LeafValue → Leaf → LeafValue
resize_of a to = in_leaf to (padded to.width (fill_of to.signed a.digits) a.digits)

-- a part select inside its operand, unsigned (IEEE 1800-2017, 11.5.1)
abbrev pub part_of : LeafValue → ℕ → ℕ → LeafValue
part_of a low width = record { leaf = unsigned_leaf width a.leaf.four; digits = take width (drop low a.digits) }

-- the digits of a part replaced
abbrev pub put_part_of : LeafValue → ℕ → LeafValue → LeafValue
put_part_of a low b = in_leaf a.leaf (take low a.digits ++ (b.digits ++ drop (low + b.leaf.width) a.digits))

-- a concatenation, the first operand above, unsigned (IEEE 1800-2017, 11.4.12)
abbrev pub concat_of : LeafValue → LeafValue → LeafValue
concat_of a b =
    record { leaf = unsigned_leaf (a.leaf.width + b.leaf.width) (either_four a b); digits = b.digits ++ a.digits }

-- two drivers of a built-in net (IEEE 1800-2017, 6.6.1)
abbrev pub wire_of : LeafValue → LeafValue → LeafValue
wire_of a b = in_leaf a.leaf (pairwise wire_digit a.digits b.digits)
