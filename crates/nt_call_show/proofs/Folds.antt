-- What a fold answers for expressions and statements, by their first node.
use Rattle.std.proofs.Common.{◌≡◌, ℕ, Bool, List, map}
use Rattle.std.specs.Prelude.{Option}
use denote.Hole.Carrier.{roll}
use Rattle.nt_value.specs.declared.operator.Binary.{Binary}
use Rattle.nt_value.specs.declared.place.Place.{Place}
use Rattle.nt_design.specs.Parts.{Value}
use Rattle.nt_design.specs.declared.act.Act.{Act}
use Rattle.nt_design.specs.declared.act.Act.TheFolds.{fold-Act, fold-roll-Act}
use Rattle.nt_design.specs.declared.act.Act.TheOpen.{Act-F}
use Rattle.nt_design.specs.declared.act.Act.TheVariants as act
use Rattle.nt_design.specs.declared.act.Act.TheViews.{roll-Act}
use Rattle.nt_design.specs.declared.target.Target.{Target}
use Rattle.nt_design.specs.declared.tree.Tree.{Tree}
use Rattle.nt_design.specs.declared.tree.Tree.TheFolds.{fold-Tree, fold-roll-Tree}
use Rattle.nt_design.specs.declared.tree.Tree.TheOpen.{Tree-F}
use Rattle.nt_design.specs.declared.tree.Tree.TheVariants as tree
use Rattle.nt_design.specs.declared.tree.Tree.TheViews.{roll-Tree}

module _ (A : Type 0) (step : Tree-F A → A) where
  pub const_is : (v : Value) → fold-Tree A step (tree.Const v) ≡ step (Tree-F.Const v)
  unfolding roll-Tree roll
  const_is v = fold-roll-Tree A step (Tree-F.Const v)

  pub local_is : (i : ℕ) → fold-Tree A step (tree.Local i) ≡ step (Tree-F.Local i)
  unfolding roll-Tree roll
  local_is i = fold-roll-Tree A step (Tree-F.Local i)

  pub leaves_is : (a : Tree) (first count : ℕ) → fold-Tree A step (tree.Leaves a first count) ≡ step (Tree-F.Leaves (fold-Tree A step a) first count)
  unfolding roll-Tree roll
  leaves_is a first count = fold-roll-Tree A step (Tree-F.Leaves a first count)

  pub element_is : (a : Tree) → fold-Tree A step (tree.Element a) ≡ step (Tree-F.Element (fold-Tree A step a))
  unfolding roll-Tree roll
  element_is a = fold-roll-Tree A step (Tree-F.Element a)

  pub binary_is : (op : Binary) (a b : Tree) → fold-Tree A step (tree.Binary op a b) ≡ step (Tree-F.Binary op (fold-Tree A step a) (fold-Tree A step b))
  unfolding roll-Tree roll
  binary_is op a b = fold-roll-Tree A step (Tree-F.Binary op a b)

  pub call_is : (f : ℕ) (args : List Tree) → fold-Tree A step (tree.Call f args) ≡ step (Tree-F.Call f (map (fold-Tree A step) args))
  unfolding roll-Tree roll
  call_is f args = fold-roll-Tree A step (Tree-F.Call f args)

module _ (A : Type 0) (step : Act-F A → A) where
  pub null_is : (at : Place) → fold-Act A step (act.Null at) ≡ step (Act-F.Null at)
  unfolding roll-Act roll
  null_is at = fold-roll-Act A step (Act-F.Null at)

  pub block_is : (items : List Act) (at : Place) → fold-Act A step (act.Block items at) ≡ step (Act-F.Block (map (fold-Act A step) items) at)
  unfolding roll-Act roll
  block_is items at = fold-roll-Act A step (Act-F.Block items at)

  pub assign_is : (left : Target) (right : Tree) (at : Place) → fold-Act A step (act.Assign left right at) ≡ step (Act-F.Assign left right at)
  unfolding roll-Act roll
  assign_is left right at = fold-roll-Act A step (Act-F.Assign left right at)

  pub while_is : (test : Tree) (body : Act) (at : Place) → fold-Act A step (act.While test body at) ≡ step (Act-F.While test (fold-Act A step body) at)
  unfolding roll-Act roll
  while_is test body at = fold-roll-Act A step (Act-F.While test body at)

  pub for_is : (fresh : Bool) (left : Target) (first test : Tree) (next body : Act) (at : Place) → fold-Act A step (act.For fresh left first test next body at) ≡ step (Act-F.For fresh left first test (fold-Act A step next) (fold-Act A step body) at)
  unfolding roll-Act roll
  for_is fresh left first test next body at = fold-roll-Act A step (Act-F.For fresh left first test next body at)

  pub foreach_is : (bounds : Option (ℕ × ℕ)) (index : ℕ) (body : Act) (at : Place) → fold-Act A step (act.Foreach bounds index body at) ≡ step (Act-F.Foreach bounds index (fold-Act A step body) at)
  unfolding roll-Act roll
  foreach_is bounds index body at = fold-roll-Act A step (Act-F.Foreach bounds index body at)

  pub return_is : (value : Option Tree) (at : Place) → fold-Act A step (act.Return value at) ≡ step (Act-F.Return value at)
  unfolding roll-Act roll
  return_is value at = fold-roll-Act A step (Act-F.Return value at)

pub ruleset folds = (const_is, local_is, leaves_is, element_is, binary_is, call_is, null_is, block_is, assign_is, while_is, for_is, foreach_is, return_is)
