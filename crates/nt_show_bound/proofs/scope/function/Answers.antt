use Rattle.std.proofs.Common.{sym, subst}
use Rattle.nt_things.specs.Usable.{UsableFunction}
use Rattle.nt_show_bound.proofs.Fitted.{all_usable}
use Rattle.nt_show_bound.proofs.scope.function.Goals as goal

pub returns : goal.returns
returns c = subst UsableFunction (sym c.in_ok-function.ensures) (record { args = all_usable _ c.in_ok-args-2.ensures; result = c.requires })
