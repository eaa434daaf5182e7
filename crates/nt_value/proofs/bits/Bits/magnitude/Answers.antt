use Rattle.nt_value.proofs.Words.{seen_number}
use Rattle.nt_value.proofs.bits.Bits.magnitude.Goals as goal

pub returns-clause-value : goal.returns-clause-value
returns-clause-value c = seen_number c.self.inside c.args.self c.self.view_is c.self.invariant c.requires
