use Rattle.nt_value.proofs.Widths.{seen_fill}
use Rattle.nt_value.proofs.bits.Bits.fill.Goals as goal

pub returns-then-self : goal.returns-then-self
returns-then-self c = seen_fill c.self.inside c.args.self c.digit.result c.self.view_is c.if-self.true c.digit.ensures
