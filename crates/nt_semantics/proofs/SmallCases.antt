-- Small cases of the definitions, computed.
use Rattle.std.proofs.Common.{◌≡◌, ℕ, List, [], ◌∷◌, ◌++◌, refl}
use Rattle.std.specs.Prelude.{true, false, Some, None, codes, decimal, pos, negsuc}
use Rattle.nt_value.specs.Operators.{unsigned_leaf}
use Rattle.nt_value.specs.declared.digit.Digit.{Digit}
use Rattle.nt_value.specs.declared.digit.Digit.TheVariants.{Zero, One, X, Z}
use Rattle.nt_value.specs.declared.leaf.Leaf.{Leaf}
use Rattle.nt_design.specs.Parts.{Value, one, int_value, written, Step, IntoItem, IntoLeaves, IntoPart}
use Rattle.nt_value.specs.declared.kind.Edge.TheVariants.{Any, Pos, Neg}
use Rattle.nt_semantics.specs.Lines.{line_of}
use Rattle.nt_design.specs.Puts.{put_of, after_put}
use Rattle.nt_semantics.specs.Same.{is_same}
use Rattle.nt_semantics.specs.Statements.{index_before, size_of}
use Rattle.nt_semantics.specs.Step.{contribution, joined_wires}
use Rattle.nt_semantics.specs.Wake.{matches}

-- digits of four states, the least significant first
abbrev logic : ℕ → List Digit → Value
logic width ds = one (record { leaf = unsigned_leaf width true; digits = ds })

-- ---- `$display("a=%b %h %0d", a, a, 3)` with 8'hx5 in a
abbrev x5 : Value
x5 = logic 8 (One ∷ Zero ∷ One ∷ Zero ∷ X ∷ X ∷ X ∷ X ∷ [])

line : line_of (codes "a=%b %h %0d") (x5 ∷ x5 ∷ int_value 3 ∷ []) ≡ codes "a=xxxx0101 x5 " ++ (decimal 3 ++ [])
unfolding line_of
line = refl

-- one x among four digits is X, and `%%` is `%`
mixed : line_of (codes "%h%%%0d") (logic 5 (X ∷ One ∷ One ∷ One ∷ One ∷ []) ∷ logic 2 (X ∷ One ∷ []) ∷ []) ≡ codes "1X%X"
unfolding line_of
mixed = refl

-- ---- `wire [3:0] w; assign w[1:0] = 2'b01; assign w[2] = 1'b1; assign w[0] = 1'b0;` is 4'bz10x
abbrev four : List Leaf
four = unsigned_leaf 4 true ∷ []

low_two : contribution four 0 2 (logic 2 (One ∷ Zero ∷ [])) ≡ logic 4 (One ∷ Zero ∷ Z ∷ Z ∷ [])
low_two = refl

parts : joined_wires four (contribution four 0 2 (logic 2 (One ∷ Zero ∷ [])) ∷ contribution four 2 1 (logic 1 (One ∷ [])) ∷ contribution four 0 1 (logic 1 (Zero ∷ [])) ∷ []) ≡ logic 4 (X ∷ Zero ∷ One ∷ Z ∷ [])
parts = refl

undriven : joined_wires four [] ≡ logic 4 (Z ∷ Z ∷ Z ∷ Z ∷ [])
undriven = refl

-- ---- edges
rises : matches Pos (logic 2 (Zero ∷ One ∷ [])) (logic 2 (X ∷ Zero ∷ [])) ≡ true
rises = refl

no_rise : matches Pos (logic 1 (X ∷ [])) (logic 1 (Z ∷ [])) ≡ false
no_rise = refl

falls : matches Neg (logic 1 (Z ∷ [])) (logic 1 (Zero ∷ [])) ≡ true
falls = refl

above_lowest : matches Pos (logic 2 (Zero ∷ Zero ∷ [])) (logic 2 (Zero ∷ One ∷ [])) ≡ false
above_lowest = refl

changes : matches Any (logic 2 (Zero ∷ Zero ∷ [])) (logic 2 (Zero ∷ One ∷ [])) ≡ true
unfolding is_same
changes = refl

-- ---- writes through paths do what the paths say
abbrev two_leaves : Value
two_leaves =
    record { leaf = unsigned_leaf 2 true; digits = Zero ∷ Zero ∷ [] }
    ∷ record { leaf = unsigned_leaf 4 true; digits = One ∷ Zero ∷ Zero ∷ Zero ∷ [] }
    ∷ []

-- the upper digits of the second member, of which one is outside
abbrev upper : List Step
upper = IntoLeaves 1 1 ∷ IntoPart (Some (pos 3)) 2 ∷ []

upper_written : after_put (put_of 0 two_leaves upper (logic 2 (One ∷ One ∷ []))) two_leaves ≡ written upper (logic 2 (One ∷ One ∷ [])) two_leaves
unfolding after_put
upper_written = refl

abbrev lower : List Step
lower = IntoLeaves 1 1 ∷ IntoPart (Some (negsuc 0)) 3 ∷ []

lower_written : after_put (put_of 0 two_leaves lower (logic 3 (One ∷ Zero ∷ One ∷ []))) two_leaves ≡ written lower (logic 3 (One ∷ Zero ∷ One ∷ [])) two_leaves
unfolding after_put
lower_written = refl

abbrev outside : List Step
outside = IntoLeaves 0 1 ∷ IntoPart (Some (pos 2)) 2 ∷ []

outside_written : after_put (put_of 0 two_leaves outside (logic 2 (One ∷ One ∷ []))) two_leaves ≡ two_leaves
unfolding after_put
outside_written = refl

unknown_written : after_put (put_of 0 two_leaves (IntoLeaves 0 1 ∷ IntoPart None 2 ∷ []) (logic 2 (One ∷ One ∷ []))) two_leaves ≡ two_leaves
unfolding after_put
unknown_written = refl

past_written : after_put (put_of 0 two_leaves (IntoItem None 2 ∷ []) (logic 2 (One ∷ One ∷ []))) two_leaves ≡ two_leaves
unfolding after_put
past_written = refl

-- an array of two elements of one leaf
second_written : after_put (put_of 0 (int_value 1 ++ int_value 2) (IntoItem (Some 1) 2 ∷ []) (int_value 7)) (int_value 1 ++ int_value 2) ≡ int_value 1 ++ int_value 7
unfolding after_put
second_written = refl

-- ---- `foreach` from the left bound to the right one: two indices come after 5 in [5:3], and none after 7 in [4:7]
first_down : index_before 2 (5, 3) ≡ 5
first_down = refl

last_up : index_before 0 (4, 7) ≡ 7
last_up = refl

sizes : size_of (5, 3) ≡ 3
sizes = refl
