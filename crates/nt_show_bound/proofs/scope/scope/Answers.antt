use Rattle.nt_show_bound.proofs.Fitted.{entities_usable}
use Rattle.nt_show_bound.proofs.scope.scope.Goals as goal

pub returns : goal.returns
returns c = entities_usable _ c.in_ok-names.ensures
