use Rattle.std.proofs.Common.{length}
use Rattle.nt_shapes.proofs.forms.+wide.Given as goal

abbrev pub decreases-wide : goal.decreases-wide
decreases-wide l = length l.parts.now
