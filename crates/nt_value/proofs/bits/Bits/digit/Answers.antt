use Rattle.nt_value.proofs.Words.{seen_digit}
use Rattle.nt_value.proofs.bits.Bits.digit.Goals as goal

pub returns : goal.returns
returns c = seen_digit c.self.inside c.args.self c.args.at _ c.self.view_is c.requires c.from_bits.ensures
