-- How large each form of expression is, and that its parts are smaller.
use Rattle.std.proofs.Common.{◌≡◌, ◌<◌, ℕ, zero, suc, ◌+◌, ◌*◌, List, [], ◌∷◌, length, ap, arith}
use Rattle.std.specs.Prelude.{Bool, get_or}
use denote.Hole.Carrier.{roll}
use Rattle.nt_value.specs.declared.leaf.Leaf.{Leaf}
use Rattle.nt_value.specs.declared.operator.Binary.{Binary}
use Rattle.nt_value.specs.declared.operator.Unary.{Unary}
use Rattle.nt_design.specs.Sizes.{tree_size, trees_size, tree_size_step}
use Rattle.nt_design.specs.declared.tree.Tree.{Tree}
use Rattle.nt_design.specs.declared.tree.Tree.TheOpen.{Tree-F}
use Rattle.nt_design.specs.declared.tree.Tree.TheViews as view
use Rattle.nt_design.specs.declared.tree.Tree.TheViews.{roll-Tree}
use Rattle.nt_design.specs.declared.tree.Tree.TheFolds.{fold-roll-Tree}

pub size_leaves : (a : Tree) (first count : ℕ) → tree_size (view.Leaves a first count) ≡ suc (tree_size a)
unfolding tree_size roll-Tree roll
size_leaves a first count = fold-roll-Tree ℕ tree_size_step (Tree-F.Leaves a first count)

pub size_item : (a index : Tree) (low size : ℕ) (up : Bool) → tree_size (view.Item a index low size up) ≡ suc (tree_size a + tree_size index)
unfolding tree_size roll-Tree roll
size_item a index low size up = fold-roll-Tree ℕ tree_size_step (Tree-F.Item a index low size up)

pub size_element : (index : Tree) → tree_size (view.Element index) ≡ suc (tree_size index)
unfolding tree_size roll-Tree roll
size_element index = fold-roll-Tree ℕ tree_size_step (Tree-F.Element index)

pub size_part : (a low : Tree) (width : ℕ) → tree_size (view.Part a low width) ≡ suc (tree_size a + tree_size low)
unfolding tree_size roll-Tree roll
size_part a low width = fold-roll-Tree ℕ tree_size_step (Tree-F.Part a low width)

pub size_unary : (o : Unary) (a : Tree) → tree_size (view.Unary o a) ≡ suc (tree_size a)
unfolding tree_size roll-Tree roll
size_unary o a = fold-roll-Tree ℕ tree_size_step (Tree-F.Unary o a)

pub size_resize : (a : Tree) (to : Leaf) → tree_size (view.Resize a to) ≡ suc (tree_size a)
unfolding tree_size roll-Tree roll
size_resize a to = fold-roll-Tree ℕ tree_size_step (Tree-F.Resize a to)

pub size_binary : (o : Binary) (a b : Tree) → tree_size (view.Binary o a b) ≡ suc (tree_size a + tree_size b)
unfolding tree_size roll-Tree roll
size_binary o a b = fold-roll-Tree ℕ tree_size_step (Tree-F.Binary o a b)

pub size_choose : (t a b : Tree) → tree_size (view.Choose t a b) ≡ suc (tree_size t + (tree_size a + tree_size b))
unfolding tree_size roll-Tree roll
size_choose t a b = fold-roll-Tree ℕ tree_size_step (Tree-F.Choose t a b)

pub size_concat : (parts : List Tree) → tree_size (view.Concat parts) ≡ suc (trees_size parts)
unfolding tree_size roll-Tree roll
size_concat parts = fold-roll-Tree ℕ tree_size_step (Tree-F.Concat parts)

pub size_gather : (parts : List Tree) → tree_size (view.Gather parts) ≡ suc (trees_size parts)
unfolding tree_size roll-Tree roll
size_gather parts = fold-roll-Tree ℕ tree_size_step (Tree-F.Gather parts)

pub size_call : (f : ℕ) (args : List Tree) → tree_size (view.Call f args) ≡ suc (trees_size args)
unfolding tree_size roll-Tree roll
size_call f args = fold-roll-Tree ℕ tree_size_step (Tree-F.Call f args)

-- a member is smaller than a list
pub item_smaller : (ts : List Tree) (i : ℕ) (t : Tree) → i < length ts → t ≡ get_or ts i t → tree_size t < trees_size ts
item_smaller [] i t h e = absurd (omega (arith, h))
item_smaller (u ∷ ts) zero t h e = let s = ap tree_size e in omega (arith, s)
item_smaller (u ∷ ts) (suc i) t h e = omega (arith, item_smaller ts i t (omega (arith, h)) e)

-- ---- measures
pub falls_part : (whole part t : ℕ) → part < whole → 2 * whole + 1 ≡ t → 2 * part + 1 < t
falls_part whole part t h e = omega (arith, h, e)

pub falls_list : (whole part t : ℕ) → part < whole → 2 * whole + 1 ≡ t → 2 * part < t
falls_list whole part t h e = omega (arith, h, e)

pub falls_form : (whole form t : ℕ) → form ≡ whole → 2 * whole + 1 ≡ t → 2 * form < t
falls_form whole form t h e = omega (arith, h, e)

pub falls_in : (form part t : ℕ) → part < form → 2 * form ≡ t → 2 * part + 1 < t
falls_in form part t h e = omega (arith, h, e)
