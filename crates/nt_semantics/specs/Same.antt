-- Whether two things are the same, as tests. A value that differs is a change of its object (4.3).
use Rattle.std.specs.Prelude.{ℕ, Bool, false, ◌&&◌, ◌||◌, ◌==◌, List, [], ◌∷◌}
use Rattle.std.specs.Bool.{beq}
use Rattle.std.specs.List.{list_any}
use Rattle.std.specs.Cmp.Lexicographic.{pointwise}
use Rattle.nt_value.specs.Digits.{LeafValue}
use Rattle.nt_value.specs.Logic.{is_same_digit}
use Rattle.nt_value.specs.declared.leaf.Leaf.{Leaf}
use Rattle.nt_design.specs.Parts.{Value}
use Rattle.nt_design.specs.declared.object.Object.{Object}
use Rattle.nt_design.specs.declared.object.Object.TheVariants.{Net, Var}

abbrev pub is_same_leaf : Leaf → Leaf → Bool
is_same_leaf a b = (a.width == b.width) && (beq a.signed b.signed && beq a.four b.four)

abbrev pub is_same_leaf_value : LeafValue → LeafValue → Bool
is_same_leaf_value a b = is_same_leaf a.leaf b.leaf && pointwise is_same_digit a.digits b.digits

-- the same leaves with the same digits, x and z too
unfoldable pub is_same : Value → Value → Bool
is_same a b = pointwise is_same_leaf_value a b

abbrev pub is_same_object : Object → Object → Bool
is_same_object (Net m) (Net n) = m == n
is_same_object (Var v) (Var w) = v == w
is_same_object (Net n) (Var v) = false
is_same_object (Var v) (Net n) = false

-- an object is one of these
abbrev pub is_one_of : List Object → Object → Bool
is_one_of objects o = list_any (is_same_object o) objects

-- a number is one of these
abbrev pub is_listed : ℕ → List ℕ → Bool
is_listed n [] = false
is_listed n (m ∷ numbers) = (n == m) || is_listed n numbers
