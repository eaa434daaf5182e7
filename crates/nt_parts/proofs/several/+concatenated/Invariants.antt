use Rattle.std.proofs.Common.{length}
use Rattle.nt_parts.proofs.several.+concatenated.Given as goal

abbrev pub decreases-concatenated : goal.decreases-concatenated
decreases-concatenated l = length l.others.now
