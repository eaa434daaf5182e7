-- The value of each kind of expression, from those of its parts.
use Rattle.std.proofs.Common.{◌≡◌, ℕ, List, [], map, ap, sym, ◌∙◌}
use Rattle.std.specs.Prelude.{Bool, true, Some, get_or, length, option_map}
use denote.Hole.Carrier.{roll}
use Rattle.nt_value.specs.Operators.{unary_of, resize_of}
use Rattle.nt_value.specs.declared.leaf.Leaf.{Leaf}
use Rattle.nt_value.specs.declared.operator.Binary.{Binary as BinaryOp}
use Rattle.nt_value.specs.declared.operator.Unary.{Unary as UnaryOp}
use Rattle.nt_design.specs.Expressions.{World, Calls, object_in, by_operator, by_choice, by_call, tree_step, value_of, values_of}
use Rattle.nt_design.specs.Meaning.{meaning, calls_to, most_turns, world_of}
use Rattle.nt_design.specs.Parts.{Value, only, one, number_in, int_value, time_value, concatenated, gathered, leaves_at, position_of, item_at, element_at, part_at}
use Rattle.nt_design.specs.Turns.{Timing, by_one, by_two}
use Rattle.nt_design.specs.declared.env.Env.{Env}
use Rattle.nt_design.specs.declared.function.Function.{Function}
use Rattle.nt_design.specs.declared.object.Object.{Object}
use Rattle.nt_design.specs.declared.tree.Tree as tree
use Rattle.nt_design.specs.declared.tree.Tree.{Tree}
use Rattle.nt_design.specs.declared.tree.Tree.TheViews as view
use Rattle.nt_design.specs.declared.tree.Tree.TheViews.{roll-Tree}
use Rattle.nt_design.specs.declared.tree.Tree.TheOpen.{Tree-F}
use Rattle.nt_design.specs.declared.tree.Tree.TheFolds.{fold-roll-Tree}

pub value_const : (calls : Calls) (world : World) (value : Value) (locals : List Value) (left : ℕ) → value_of calls world (tree.Const value) locals left ≡ Some (value, left)
unfolding value_of roll-Tree roll
value_const calls world value locals left =
    ap (λ m. m locals left) (fold-roll-Tree (Timing Value) (tree_step calls world) (Tree-F.Const value))

pub value_read : (calls : Calls) (world : World) (o : Object) (locals : List Value) (left : ℕ) → value_of calls world (tree.Read o) locals left ≡ Some (object_in world o, left)
unfolding value_of roll-Tree roll
value_read calls world o locals left =
    ap (λ m. m locals left) (fold-roll-Tree (Timing Value) (tree_step calls world) (Tree-F.Read o))

pub value_local : (calls : Calls) (world : World) (i : ℕ) (locals : List Value) (left : ℕ) → value_of calls world (tree.Local i) locals left ≡ Some (get_or locals i [], left)
unfolding value_of roll-Tree roll
value_local calls world i locals left =
    ap (λ m. m locals left) (fold-roll-Tree (Timing Value) (tree_step calls world) (Tree-F.Local i))

pub value_size : (calls : Calls) (world : World) (locals : List Value) (left : ℕ) → value_of calls world tree.Size locals left ≡ Some (int_value (length world.many), left)
unfolding value_of roll-Tree roll
value_size calls world locals left =
    ap (λ m. m locals left) (fold-roll-Tree (Timing Value) (tree_step calls world) Tree-F.Size)

pub value_time : (calls : Calls) (world : World) (locals : List Value) (left : ℕ) → value_of calls world tree.Time locals left ≡ Some (time_value world.time, left)
unfolding value_of roll-Tree roll
value_time calls world locals left =
    ap (λ m. m locals left) (fold-roll-Tree (Timing Value) (tree_step calls world) Tree-F.Time)

pub value_leaves : (calls : Calls) (world : World) (a : Tree) (first count : ℕ) (locals : List Value) (left : ℕ) → value_of calls world (view.Leaves a first count) locals left ≡ by_one (leaves_at first count) (value_of calls world a) locals left
unfolding value_of roll-Tree roll
value_leaves calls world a first count locals left =
    ap (λ m. m locals left) (fold-roll-Tree (Timing Value) (tree_step calls world) (Tree-F.Leaves a first count))

pub value_item : (calls : Calls) (world : World) (a index : Tree) (low size : ℕ) (up : Bool) (locals : List Value) (left : ℕ) → value_of calls world (view.Item a index low size up) locals left ≡ by_two (λ x i. item_at size (position_of low size up (number_in i)) x) (value_of calls world a) (value_of calls world index) locals left
unfolding value_of roll-Tree roll
value_item calls world a index low size up locals left =
    ap (λ m. m locals left) (fold-roll-Tree (Timing Value) (tree_step calls world) (Tree-F.Item a index low size up))

pub value_element : (calls : Calls) (world : World) (index : Tree) (locals : List Value) (left : ℕ) → value_of calls world (view.Element index) locals left ≡ by_one (λ i. element_at world.element world.many (position_of 0 (length world.many) true (number_in i))) (value_of calls world index) locals left
unfolding value_of roll-Tree roll
value_element calls world index locals left =
    ap (λ m. m locals left) (fold-roll-Tree (Timing Value) (tree_step calls world) (Tree-F.Element index))

pub value_part : (calls : Calls) (world : World) (a low : Tree) (width : ℕ) (locals : List Value) (left : ℕ) → value_of calls world (view.Part a low width) locals left ≡ by_two (λ x i. one (part_at (number_in i) width (only x))) (value_of calls world a) (value_of calls world low) locals left
unfolding value_of roll-Tree roll
value_part calls world a low width locals left =
    ap (λ m. m locals left) (fold-roll-Tree (Timing Value) (tree_step calls world) (Tree-F.Part a low width))

pub value_unary : (calls : Calls) (world : World) (op : UnaryOp) (a : Tree) (locals : List Value) (left : ℕ) → value_of calls world (view.Unary op a) locals left ≡ by_one (λ x. one (unary_of op (only x))) (value_of calls world a) locals left
unfolding value_of roll-Tree roll
value_unary calls world op a locals left =
    ap (λ m. m locals left) (fold-roll-Tree (Timing Value) (tree_step calls world) (Tree-F.Unary op a))

pub value_binary : (calls : Calls) (world : World) (op : BinaryOp) (a b : Tree) (locals : List Value) (left : ℕ) → value_of calls world (view.Binary op a b) locals left ≡ by_operator op (value_of calls world a) (value_of calls world b) locals left
unfolding value_of roll-Tree roll
value_binary calls world op a b locals left =
    ap (λ m. m locals left) (fold-roll-Tree (Timing Value) (tree_step calls world) (Tree-F.Binary op a b))

pub value_choose : (calls : Calls) (world : World) (test a b : Tree) (locals : List Value) (left : ℕ) → value_of calls world (view.Choose test a b) locals left ≡ by_choice (value_of calls world test) (value_of calls world a) (value_of calls world b) locals left
unfolding value_of roll-Tree roll
value_choose calls world test a b locals left =
    ap (λ m. m locals left) (fold-roll-Tree (Timing Value) (tree_step calls world) (Tree-F.Choose test a b))

pub value_concat : (calls : Calls) (world : World) (parts : List Tree) (locals : List Value) (left : ℕ) → value_of calls world (view.Concat parts) locals left ≡ by_one (λ vs. one (concatenated vs)) (values_of calls world parts) locals left
unfolding value_of roll-Tree roll
value_concat calls world parts locals left =
    ap (λ m. m locals left) (fold-roll-Tree (Timing Value) (tree_step calls world) (Tree-F.Concat parts))

pub value_gather : (calls : Calls) (world : World) (parts : List Tree) (locals : List Value) (left : ℕ) → value_of calls world (view.Gather parts) locals left ≡ by_one gathered (values_of calls world parts) locals left
unfolding value_of roll-Tree roll
value_gather calls world parts locals left =
    ap (λ m. m locals left) (fold-roll-Tree (Timing Value) (tree_step calls world) (Tree-F.Gather parts))

pub value_resize : (calls : Calls) (world : World) (a : Tree) (to : Leaf) (locals : List Value) (left : ℕ) → value_of calls world (view.Resize a to) locals left ≡ by_one (λ x. one (resize_of (only x) to)) (value_of calls world a) locals left
unfolding value_of roll-Tree roll
value_resize calls world a to locals left =
    ap (λ m. m locals left) (fold-roll-Tree (Timing Value) (tree_step calls world) (Tree-F.Resize a to))

pub value_call : (calls : Calls) (world : World) (f : ℕ) (args : List Tree) (locals : List Value) (left : ℕ) → value_of calls world (view.Call f args) locals left ≡ by_call calls f (map (value_of calls world) args) locals left
unfolding value_of roll-Tree roll
value_call calls world f args locals left =
    ap (λ m. m locals left) (fold-roll-Tree (Timing Value) (tree_step calls world) (Tree-F.Call f args))

-- ---- constants
pub meaning_const : (functions : List Function) (env : Env) (value : Value) → meaning functions env (tree.Const value) ≡ Some value
meaning_const functions env value =
    ap (λ m. option_map (λ p. p.0) m) (value_const (calls_to functions most_turns) (world_of env) value env.locals most_turns)

-- a constant's copy is its value
pub meaning_of_const : (functions : List Function) (env : Env) (t : Tree) (value copy : Value) → t ≡ tree.Const value → copy ≡ value → meaning functions env t ≡ Some copy
meaning_of_const functions env t value copy is same =
    ap (meaning functions env) is ∙ (meaning_const functions env value ∙ ap (λ v. Some v) (sym same))
