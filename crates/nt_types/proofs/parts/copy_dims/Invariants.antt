use Rattle.std.proofs.Common.{◌≡◌, take}
use Rattle.nt_types.proofs.parts.copy_dims.Given as goal

abbrev pub invariant-loop-left : goal.invariant-loop-left
invariant-loop-left l = l.all ≡ take l.left-index l.dims
