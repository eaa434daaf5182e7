-- Values and their defaults.
use Rattle.std.specs.Prelude.{◌≡◌, ◌≤◌, ℕ, ◌/◌, ◌%◌, ◌==◌, zero, suc, if◌then◌else◌, List, [], ◌∷◌, replicate, map, length, All}
use Rattle.nt_value.specs.Digits.{LeafValue, IsFilled}
use Rattle.nt_value.specs.declared.digit.Digit.{Digit}
use Rattle.nt_value.specs.declared.digit.Digit.TheVariants.{Zero, One, X}
use Rattle.nt_value.specs.declared.leaf.Leaf.{Leaf}
use Rattle.nt_value.specs.declared.value.TheConstants.{MOST_LEAVES}

-- the lowest digits of a number in base 2, the least significant first
abbrev pub binary : ℕ → ℕ → List Digit
binary zero n = []
binary (suc width) n = (if n % 2 == 1 then One else Zero) ∷ binary width (n / 2)

-- a leaf with all digits 0
abbrev pub zero_leaf : Leaf → LeafValue
zero_leaf leaf = record { leaf = leaf; digits = replicate leaf.width Zero }

-- x in a leaf of four states, and 0 in one of two (IEEE 1800-2017, 6.8, Table 6-7)
abbrev pub default_leaf : Leaf → LeafValue
default_leaf leaf = record { leaf = leaf; digits = replicate leaf.width (if leaf.four then X else Zero) }

-- each leaf of a type at its default
abbrev pub default_value : List Leaf → List LeafValue
default_value shape = map default_leaf shape

-- the leaves of a value
abbrev pub shape_of : List LeafValue → List Leaf
shape_of value = map (λ v. v.leaf) value

-- a value: at most 64 leaves, this project's limit, each with its digits
pub record IsValue (leaves : List LeafValue) : Type 0 where
  pub within : length leaves ≤ MOST_LEAVES
  pub filled : All IsFilled leaves

-- a value of a type: the type's leaves, each with its digits
pub record IsValueOf (shape : List Leaf) (value : List LeafValue) : Type 0 where
  pub leaves : shape_of value ≡ shape
  pub filled : All IsFilled value

-- values of types, one each
pub record AreValuesOf (shapes : List (List Leaf)) (values : List (List LeafValue)) : Type 0 where
  pub leaves : map shape_of values ≡ shapes
  pub filled : All (All IsFilled) values
