-- Leaves and their digits, the least significant first.
use Rattle.std.specs.Prelude.{◌≡◌, ℕ, ◌+◌, ◌*◌, ◌==◌, ◌≤◌, Bool, true, false, ◌&&◌, ◌||◌, List, [], ◌∷◌, length}
use Rattle.nt_value.specs.declared.digit.Digit.{Digit}
use Rattle.nt_value.specs.declared.digit.Digit.TheVariants.{Zero, One, X, Z}
use Rattle.nt_value.specs.declared.leaf.Leaf.{Leaf}
use Rattle.nt_value.specs.declared.leaf.TheConstants.{WIDEST}

-- a leaf of a value: what it is, and its digits
pub record LeafValue : Type 0 where
  pub leaf : Leaf
  pub digits : List Digit

-- a width of 1 to 64, this project's limit
abbrev pub IsLeaf : Leaf → Type 0
IsLeaf leaf = (1 ≤ leaf.width) × (leaf.width ≤ WIDEST)

-- 0 and 1 are known, x and z are not (IEEE 1800-2017, 6.3.1)
abbrev pub is_known : Digit → Bool
is_known Zero = true
is_known One = true
is_known X = false
is_known Z = false

-- no digit is x or z
abbrev pub all_known : List Digit → Bool
all_known [] = true
all_known (d ∷ ds) = is_known d && all_known ds

-- a leaf of two states has 0 and 1 alone (IEEE 1800-2017, 6.11.2)
abbrev pub IsDigitOf : Leaf → Digit → Type 0
IsDigitOf leaf digit = leaf.four ≡ false → is_known digit ≡ true

-- a leaf has as many digits as it is wide, and in two states 0 and 1 alone (IEEE 1800-2017, 6.3.1, 6.11.2)
pub record IsFilled (a : LeafValue) : Type 0 where
  pub long : length a.digits ≡ a.leaf.width
  pub two : a.leaf.four ≡ false → all_known a.digits ≡ true

-- the same as a test
abbrev pub is_filled : LeafValue → Bool
is_filled a = length a.digits == a.leaf.width && (a.leaf.four || all_known a.digits)

-- so it is of each leaf of a value
abbrev pub are_filled : List LeafValue → Bool
are_filled [] = true
are_filled (a ∷ leaves) = is_filled a && are_filled leaves

-- 1 for a 1, and 0 for all else
abbrev pub one_of : Digit → ℕ
one_of Zero = 0
one_of One = 1
one_of X = 0
one_of Z = 0

-- the number that known digits write in base 2
abbrev pub number_of : List Digit → ℕ
number_of [] = 0
number_of (d ∷ ds) = one_of d + number_of ds * 2

-- a digit is 1
abbrev pub is_one : Digit → Bool
is_one Zero = false
is_one One = true
is_one X = false
is_one Z = false

-- the most significant digit is 1
abbrev pub is_top_one : List Digit → Bool
is_top_one [] = false
is_top_one (d ∷ []) = is_one d
is_top_one (d ∷ e ∷ ds) = is_top_one (e ∷ ds)
