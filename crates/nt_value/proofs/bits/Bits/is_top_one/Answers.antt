use Rattle.nt_value.proofs.Words.{seen_top}
use Rattle.nt_value.proofs.bits.Bits.is_top_one.Goals as goal

pub returns : goal.returns
returns c = seen_top c.self.inside c.args.self c.self.view_is c.self.invariant c.requires
