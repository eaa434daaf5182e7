-- What a constant is to each fold over expressions.
use Rattle.std.proofs.Common.{◌≡◌, List, [], ap, sym, ◌∙◌}
use Rattle.std.specs.Prelude.{All, false, Option, Some}
use Rattle.std.specs.List.{list_any}
use denote.Hole.Carrier.{roll}
use Rattle.nt_value.proofs.Filled.{all_filled_back, all_filled_test}
use Rattle.nt_value.specs.Digits.{IsFilled, are_filled}
use Rattle.nt_value.specs.Values.{IsValueOf, shape_of}
use Rattle.nt_value.specs.declared.leaf.Leaf.{Leaf}
use Rattle.nt_design.proofs.Shaped.{where_so_back}
use Rattle.nt_design.specs.Parts.{Value}
use Rattle.nt_design.specs.Reads.{Source, sources_step, reads_step, is_moment, has_time, reads_of}
use Rattle.nt_design.specs.Rules.{constant_step, constant_of}
use Rattle.nt_design.specs.Shapes.{Scope, Shaped, shape_step, tree_shape, where_so}
use Rattle.nt_design.specs.declared.object.Object.{Object}
use Rattle.nt_design.specs.declared.tree.Tree as tree
use Rattle.nt_design.specs.declared.tree.Tree.TheViews.{roll-Tree}
use Rattle.nt_design.specs.declared.tree.Tree.TheOpen.{Tree-F}
use Rattle.nt_design.specs.declared.tree.Tree.TheFolds.{fold-roll-Tree}

pub shape_const : (scope : Scope) (value : Value) → All IsFilled value → tree_shape scope (tree.Const value) ≡ Some (shape_of value)
unfolding roll-Tree roll
shape_const scope value filled =
    fold-roll-Tree Shaped (shape_step scope) (Tree-F.Const value)
    ∙ ap (λ b. where_so b (shape_of value)) (all_filled_test value filled)

-- a constant that has a shape is one of its values
pub const_back : (scope : Scope) (value : Value) (shape : List Leaf) → tree_shape scope (tree.Const value) ≡ Some shape → IsValueOf shape value
unfolding roll-Tree roll
const_back scope value shape h =
    let parts = where_so_back (are_filled value) (shape_of value) shape (sym (fold-roll-Tree Shaped (shape_step scope) (Tree-F.Const value)) ∙ h) in
    record { leaves = parts.1; filled = all_filled_back value parts.0 }

pub reads_const : (value : Value) → reads_of (tree.Const value) ≡ []
unfolding roll-Tree roll
reads_const value = fold-roll-Tree (List Object) reads_step (Tree-F.Const value)

pub time_const : (value : Value) → has_time (tree.Const value) ≡ false
unfolding roll-Tree roll
time_const value = ap (list_any is_moment) (fold-roll-Tree (List Source) sources_step (Tree-F.Const value))

pub constant_const : (value : Value) → constant_of (tree.Const value) ≡ Some value
unfolding roll-Tree roll
constant_const value = fold-roll-Tree (Option Value) constant_step (Tree-F.Const value)
