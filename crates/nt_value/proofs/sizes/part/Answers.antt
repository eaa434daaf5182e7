use Rattle.nt_value.proofs.Widths.{seen_part}
use Rattle.nt_value.proofs.sizes.part.Goals as goal

pub returns : goal.returns
returns c = seen_part c.a.inside c.args.a c.args.low c.args.width _ c.a.view_is c.requires.inside c.low_ones-mask.ensures
