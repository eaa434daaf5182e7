use Rattle.std.proofs.Common.{◌≡◌, take}
use Rattle.nt_design.specs.Parts.{merged}
use Rattle.nt_parts.proofs.several.merged.Given as goal

abbrev pub invariant-loop-i : goal.invariant-loop-i
invariant-loop-i l = l.leaves.items ≡ merged (take l.i l.xs) (take l.i l.ys)
