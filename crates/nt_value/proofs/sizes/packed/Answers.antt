use Rattle.nt_value.proofs.Widths.{packed_is}
use Rattle.nt_value.proofs.sizes.packed.Goals as goal

pub returns : goal.returns
returns c = packed_is c.args.high c.args.width c.args.low c.requires.width c.requires.high c.requires.low
