use Rattle.std.proofs.Common.{◌≡◌, map, take}
use Rattle.nt_design.specs.Shapes.{tree_shape}
use Rattle.nt_shapes.specs.Scopes.{scope_in}
use Rattle.nt_shapes.proofs.shape.+shapes.Given as goal

abbrev pub invariant-shapes_of-loop-tree : goal.invariant-shapes_of-loop-tree
invariant-shapes_of-loop-tree l = l.shapes ≡ map (tree_shape (scope_in l.names)) (take l.tree-index l.trees)
