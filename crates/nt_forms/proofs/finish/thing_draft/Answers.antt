use Rattle.nt_forms.proofs.Finishing.{if_ok}
use Rattle.std.proofs.Common.{subst}
use Rattle.nt_typing.specs.Typing.{Stands}
use Rattle.nt_forms.proofs.Operating.{many_drawn}
use Rattle.nt_forms.proofs.finish.thing_draft.Goals as goal

pub returns-in-Many : goal.returns-in-Many
returns-in-Many c = if_ok c.new.result (λ d h s x g. many_drawn d c.in-Many.element h s x (subst (Stands s x) c.in-Many.is g)) c.new.ensures
