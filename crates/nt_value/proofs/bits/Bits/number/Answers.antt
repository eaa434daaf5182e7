use Rattle.nt_value.proofs.Words.{number_value, number_known, number_back}
use Rattle.nt_value.proofs.bits.Bits.number.Goals as goal

pub returns-clause-value : goal.returns-clause-value
returns-clause-value c = number_value c.args.leaf c.args.number

pub returns-clause-known : goal.returns-clause-known
returns-clause-known c = number_known c.args.leaf.width c.args.number

pub returns-clause-number : goal.returns-clause-number
returns-clause-number c = number_back c.args.leaf.width c.args.number c.requires.fits
