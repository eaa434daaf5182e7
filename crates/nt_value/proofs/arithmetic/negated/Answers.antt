use Rattle.std.proofs.Common.{◌∙◌}
use Rattle.nt_value.proofs.Results.{negated_value}
use Rattle.nt_value.proofs.arithmetic.negated.Goals as goal

pub returns : goal.returns
returns c = c.wrapped.ensures ∙ negated_value c.args.leaf c.args.word c.requires.1 c.ranges.word.fits
