use Rattle.std.proofs.Common.{◌≡◌, take}
use Rattle.nt_design.specs.Parts.{gathered}
use Rattle.nt_parts.proofs.several.gathered.Given as goal

abbrev pub invariant-loop-value : goal.invariant-loop-value
invariant-loop-value l = l.leaves.items ≡ gathered (take l.value-index l.values)
