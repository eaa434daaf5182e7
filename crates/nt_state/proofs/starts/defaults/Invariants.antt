use Rattle.std.proofs.Common.{◌≡◌, map, take}
use Rattle.nt_value.specs.Values.{default_value}
use Rattle.nt_state.proofs.starts.defaults.Given as goal

abbrev pub invariant-loop-shape : goal.invariant-loop-shape
invariant-loop-shape l = l.values ≡ map default_value (take l.shape-index l.shapes)
