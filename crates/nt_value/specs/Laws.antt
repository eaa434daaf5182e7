-- Laws of the operators.
use Rattle.std.specs.Prelude.{◌≡◌, ◌<◌, ◌≤◌, ◌^◌, ℕ, true, false, length, ℤ, pos, ◌+ℤ◌, ◌-ℤ◌, ◌*ℤ◌}
use Rattle.nt_value.specs.Digits.{LeafValue, IsFilled, all_known, number_of}
use Rattle.nt_value.specs.Operators.{binary_of, unary_of, concat_of, number, part_of, resize_of}
use Rattle.nt_value.specs.declared.operator.Binary.TheVariants.{Add, Sub, Mul, Div, Rem, Xor, Xnor}
use Rattle.nt_value.specs.declared.operator.Unary.TheVariants.{Not}
use Rattle.nt_value.specs.declared.leaf.Leaf.{Leaf}

-- two whole numbers differ by a multiple of m
abbrev pub IsCongruent : ℕ → ℤ → ℤ → Type 0
IsCongruent m x y = (k : ℤ) × (x ≡ y +ℤ k *ℤ pos m)

-- two operands of one leaf, with as many digits as it is wide, and none of them x or z
pub record AreKnown (a b : LeafValue) : Type 0 where
  pub leaf : a.leaf ≡ b.leaf
  pub first_long : length a.digits ≡ a.leaf.width
  pub second_long : length b.digits ≡ b.leaf.width
  pub first_known : all_known a.digits ≡ true
  pub second_known : all_known b.digits ≡ true

-- the number of a sum is the sum of the numbers modulo 2 to the power of the width, signed or not
abbrev pub AdditionIsModular : Type 0
AdditionIsModular =
    (a b : LeafValue) → AreKnown a b → IsCongruent (2 ^ a.leaf.width) (number (binary_of Add a b)) (number a +ℤ number b)

-- and so is a difference
abbrev pub SubtractionIsModular : Type 0
SubtractionIsModular =
    (a b : LeafValue) → AreKnown a b → IsCongruent (2 ^ a.leaf.width) (number (binary_of Sub a b)) (number a -ℤ number b)

-- and a product
abbrev pub MultiplicationIsModular : Type 0
MultiplicationIsModular =
    (a b : LeafValue) → AreKnown a b → IsCongruent (2 ^ a.leaf.width) (number (binary_of Mul a b)) (number a *ℤ number b)

-- a quotient times its divisor, and the remainder, make the dividend again: also where the quotient is too large for
-- the leaf, as that of the least number by -1
abbrev pub DivisionRestores : Type 0
DivisionRestores =
    (a b : LeafValue) → AreKnown a b → 0 < number_of b.digits → binary_of Add (binary_of Mul (binary_of Div a b) b) (binary_of Rem a b) ≡ a

-- `~^` is `~` of `^`
abbrev pub XnorIsNotXor : Type 0
XnorIsNotXor =
    (a b : LeafValue) → IsFilled a → IsFilled b → a.leaf ≡ b.leaf → binary_of Xnor a b ≡ unary_of Not (binary_of Xor a b)

-- digits taken to a wider leaf and back are as they were
abbrev pub ResizeReturns : Type 0
ResizeReturns =
    (a : LeafValue) (to : Leaf) → IsFilled a → a.leaf.width ≤ to.width → (a.leaf.four ≡ true → to.four ≡ true) → resize_of (resize_of a to) a.leaf ≡ a

-- the parts of a concatenation are its operands
pub record PartsOfConcat : Type 0 where
  pub below : (a b : LeafValue) → IsFilled b → (part_of (concat_of a b) 0 b.leaf.width).digits ≡ b.digits
  pub above : (a b : LeafValue) → IsFilled a → IsFilled b → (part_of (concat_of a b) b.leaf.width a.leaf.width).digits ≡ a.digits
