use Rattle.std.proofs.Common.{◌≡◌, map, replicate, take}
use Rattle.nt_value.specs.Operators.{in_leaf}
use Rattle.nt_value.specs.declared.digit.Digit.TheVariants.{Z}
use Rattle.nt_value.specs.declared.leaf.Leaf.{Leaf}
use Rattle.nt_state.proofs.values.z_value.Given as goal

abbrev pub invariant-loop-leaf : goal.invariant-loop-leaf
invariant-loop-leaf l = l.leaves.items ≡ map (λ (leaf : Leaf). in_leaf leaf (replicate leaf.width Z)) (take l.leaf-index l.leaf-items)
