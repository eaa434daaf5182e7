use Rattle.nt_value.proofs.Bitwise.{seen_two_state}
use Rattle.nt_value.proofs.bits.Bits.from_words.Goals as goal

pub returns : goal.returns
returns c = seen_two_state c.args.leaf c.args.ones c.args.unknown c.if-leaf.false c.ranges.ones.fits c.ranges.unknown.fits
