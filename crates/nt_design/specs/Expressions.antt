-- The value of a typed expression (IEEE 1800-2017, clause 11).
use Rattle.std.specs.Prelude.{ℕ, Bool, true, false, if◌then◌else◌, List, [], map, Some, get_or, length}
use Rattle.nt_value.specs.Operators.{unary_of, binary_of, resize_of, one_digit}
use Rattle.nt_value.specs.declared.digit.Digit.{Digit}
use Rattle.nt_value.specs.declared.digit.Digit.TheVariants.{Zero, One}
use Rattle.nt_value.specs.declared.leaf.Leaf.{Leaf}
use Rattle.nt_value.specs.declared.operator.Binary.{Binary}
use Rattle.nt_value.specs.declared.operator.Binary.TheVariants.{LogicalAnd, LogicalOr}
use Rattle.nt_design.specs.Parts.{Value, only, one, test_of, number_in, int_value, time_value, merged, concatenated, gathered, leaves_at, position_of, item_at, element_at, part_at}
use Rattle.nt_design.specs.Turns.{Timed, Timing, and_then, pick, all_of, by_one, by_two}
use Rattle.nt_design.specs.declared.object.Object.{Object}
use Rattle.nt_design.specs.declared.object.Object.TheVariants.{Net, Var}
use Rattle.nt_design.specs.declared.tree.Tree.{Tree}
use Rattle.nt_design.specs.declared.tree.Tree.TheOpen.{Tree-F}
use Rattle.nt_design.specs.declared.tree.Tree.TheFolds.{fold-Tree}

-- what stays the same while an expression or a function is evaluated: the moment, the values of nets and variables, and
-- the elements of a resolver's argument with the leaves that each has
pub record World : Type 0 where
  pub time : ℕ
  pub nets : List Value
  pub vars : List Value
  pub many : List Value
  pub element : List Leaf

-- what functions give for argument values, by their numbers
abbrev pub Calls : Type 0
Calls = ℕ → List Value → ℕ → Timed Value

-- the value of a net or a variable
abbrev pub object_in : World → Object → Value
object_in world (Net n) = get_or world.nets n []
object_in world (Var v) = get_or world.vars v []

-- whether the left operand alone decides: a false one decides `&&`, and a true one `||` (11.3.5, 11.4.7)
abbrev pub is_decided : Binary → Digit → Bool
is_decided LogicalAnd Zero = true
is_decided LogicalOr One = true
is_decided _ _ = false

-- an operator of two operands. The right one is evaluated only where the left one doesn't decide; where it does, its
-- truth is the answer (11.3.5)
abbrev pub by_operator : Binary → Timing Value → Timing Value → Timing Value
by_operator op a b locals left =
    and_then (a locals left) (λ x l.
    if is_decided op (test_of x)
    then Some (one (one_digit (only x).leaf.four (test_of x)), l)
    else and_then (b locals l) (λ y k. Some (one (binary_of op (only x) (only y)), k)))

-- `?:`: the arm that is taken, or both arms joined where the test is unknown (11.4.11)
abbrev pub by_choice : Timing Value → Timing Value → Timing Value → Timing Value
by_choice test a b locals left =
    and_then (test locals left) (λ t l. pick (test_of t) (a locals l) (b locals l) (by_two merged a b locals l))

-- a call: the arguments in order, then the function (13.4)
abbrev pub by_call : Calls → ℕ → List (Timing Value) → Timing Value
by_call calls f args locals left = and_then (all_of args locals left) (λ vs l. calls f vs l)

-- the value of an expression, from those of its parts
abbrev pub tree_step : Calls → World → Tree-F (Timing Value) → Timing Value
tree_step calls world (Tree-F.Const value) locals left = Some (value, left)
tree_step calls world (Tree-F.Read object) locals left = Some (object_in world object, left)
tree_step calls world (Tree-F.Local i) locals left = Some (get_or locals i [], left)
tree_step calls world (Tree-F.Leaves a first count) locals left = by_one (leaves_at first count) a locals left
tree_step calls world (Tree-F.Item a index low size up) locals left =
    by_two (λ x i. item_at size (position_of low size up (number_in i)) x) a index locals left
tree_step calls world (Tree-F.Element index) locals left =
    by_one (λ i. element_at world.element world.many (position_of 0 (length world.many) true (number_in i))) index locals left
tree_step calls world (Tree-F.Part a low width) locals left =
    by_two (λ x i. one (part_at (number_in i) width (only x))) a low locals left
tree_step calls world (Tree-F.Unary op a) locals left = by_one (λ x. one (unary_of op (only x))) a locals left
tree_step calls world (Tree-F.Binary op a b) locals left = by_operator op a b locals left
tree_step calls world (Tree-F.Choose test a b) locals left = by_choice test a b locals left
tree_step calls world (Tree-F.Concat parts) locals left = by_one (λ vs. one (concatenated vs)) (all_of parts) locals left
tree_step calls world (Tree-F.Gather parts) locals left = by_one gathered (all_of parts) locals left
tree_step calls world (Tree-F.Resize a to) locals left = by_one (λ x. one (resize_of (only x) to)) a locals left
tree_step calls world (Tree-F.Call f args) locals left = by_call calls f args locals left
tree_step calls world Tree-F.Size locals left = Some (int_value (length world.many), left)
tree_step calls world Tree-F.Time locals left = Some (time_value world.time, left)

-- the value of an expression
unfoldable pub value_of : Calls → World → Tree → Timing Value
value_of calls world = fold-Tree (Timing Value) (tree_step calls world)

-- the values of expressions in order
abbrev pub values_of : Calls → World → List Tree → Timing (List Value)
values_of calls world trees = all_of (map (value_of calls world) trees)
