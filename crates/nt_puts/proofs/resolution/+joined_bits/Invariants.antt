use Rattle.std.proofs.Common.{length}
use Rattle.nt_puts.proofs.resolution.+joined_bits.Given as goal

abbrev pub decreases-joined_bits : goal.decreases-joined_bits
decreases-joined_bits l = length l.values.now
