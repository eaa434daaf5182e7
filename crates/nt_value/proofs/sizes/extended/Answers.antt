use Rattle.nt_value.proofs.Widths.{extended}
use Rattle.nt_value.proofs.sizes.extended.Goals as goal

pub returns-else-bit-eq0 : goal.returns-else-bit-eq0
returns-else-bit-eq0 c = rw c.low_ones.ensures (extended c.args.word c.args.width c.args.bit c.requires.high c.requires.fits c.if-bit-eq0.false)
