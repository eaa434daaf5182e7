use Rattle.std.proofs.Common.{sym, ◌∙◌}
use Rattle.nt_const.specs.Rules.{never, other}
use Rattle.nt_const.proofs.forms.is_other.Goals as goal

pub returns-in-Other : goal.returns-in-Other
returns-in-Other g c = λ at. never (other at _ (sym c.in_ok-look.ensures ∙ c.in-Other.is))
