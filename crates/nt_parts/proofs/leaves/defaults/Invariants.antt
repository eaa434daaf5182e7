use Rattle.std.proofs.Common.{◌≡◌, take}
use Rattle.nt_value.specs.Values.{default_value, shape_of}
use Rattle.nt_parts.proofs.leaves.defaults.Given as goal

abbrev pub invariant-loop-leaf : goal.invariant-loop-leaf
invariant-loop-leaf l = l.leaves.items ≡ default_value (shape_of (take l.leaf-index l.leaf-items))
