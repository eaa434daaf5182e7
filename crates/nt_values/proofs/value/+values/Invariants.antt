use Rattle.std.proofs.Common.{◌≤◌, ◌+◌, ◌*◌, drop}
use Rattle.nt_design.specs.Expressions.{value_of}
use Rattle.nt_design.specs.Sizes.{tree_size, trees_size}
use Rattle.nt_design.specs.declared.tree.Tree.TheViews as view
use Rattle.nt_values.proofs.Told.{Rest}
use Rattle.nt_values.specs.Typed.{world_in}
use Rattle.nt_values.proofs.value.+values.Given as goal

abbrev pub decreases-value_of : goal.decreases-value_of
decreases-value_of g l = 2 * tree_size l.tree.now + 1

abbrev pub decreases-item_value : goal.decreases-item_value
decreases-item_value g l = 2 * tree_size (view.Item l.of.now l.index.now l.low l.size l.up)

abbrev pub decreases-part_value : goal.decreases-part_value
decreases-part_value g l = 2 * tree_size (view.Part l.of.now l.low.now l.width)

abbrev pub decreases-binary_value : goal.decreases-binary_value
decreases-binary_value g l = 2 * tree_size (view.Binary l.op l.a.now l.b.now)

abbrev pub decreases-choice_value : goal.decreases-choice_value
decreases-choice_value g l = 2 * tree_size (view.Choose l.test.now l.yes.now l.no.now)

abbrev pub decreases-values_of : goal.decreases-values_of
decreases-values_of g l = 2 * trees_size l.trees.now

abbrev pub invariant-values_of-loop-tree : goal.invariant-values_of-loop-tree
invariant-values_of-loop-tree g l =
    record {
      fewer : l.turns ≤ l.left;
      so_far : Rest (value_of (g.C.Caller.calls l.caller) (world_in l.world)) l.trees l.locals l.left l.values (drop l.tree-index l.trees) l.turns;
    }
