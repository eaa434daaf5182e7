use Rattle.std.proofs.Common.{sym, ◌∙◌}
use Rattle.nt_patterns.proofs.Serving.{keyed_default}
use Rattle.nt_patterns.proofs.keys.is_default.Goals as goal

pub returns : goal.returns
returns c = λ n element x. c.is_other.ensures ∙ sym (keyed_default n element c.args.key.now x)
