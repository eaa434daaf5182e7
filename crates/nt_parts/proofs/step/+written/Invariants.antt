use Rattle.std.proofs.Common.{length}
use Rattle.nt_parts.proofs.step.+written.Given as goal

abbrev pub decreases-written : goal.decreases-written
decreases-written l = length l.steps.now
