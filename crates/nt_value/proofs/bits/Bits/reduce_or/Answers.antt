use Rattle.std.proofs.Common.{◌∙◌, sym}
use Rattle.nt_value.proofs.Joins.{joined_or}
use Rattle.nt_value.proofs.bits.Bits.reduce_or.Goals as goal

pub returns : goal.returns
returns c = c.truth.ensures ∙ sym (joined_or c.args.self.digits)
