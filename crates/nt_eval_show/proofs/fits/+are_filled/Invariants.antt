use Rattle.std.proofs.Common.{length}
use Rattle.nt_eval_show.proofs.fits.+are_filled.Given as goal

abbrev pub decreases-are_filled : goal.decreases-are_filled
decreases-are_filled l = length l.values.now
