use Rattle.nt_parts.proofs.Overlaid.{nowhere}
use Rattle.nt_parts.proofs.digits.unchanged.Goals as goal

pub returns : goal.returns
returns c = nowhere c.args.new c.args.of c.has_digits.ensures
