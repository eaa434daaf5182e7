use Rattle.std.proofs.Common.{Some, None, sym, ap, ◌∙◌}
use Rattle.std.proofs.lemmas.Option.{slice_get-get_or}
use Rattle.nt_instances.proofs.Faulting.{conn_nothing, conn_again, conn_fine}
use Rattle.nt_instances.proofs.conns.conn_fault.Goals as goal

pub returns-in-None : goal.returns-in-None
returns-in-None c = conn_nothing _ _ _ _ (slice_get-get_or c.args.targets.now c.args.number None c.requires ∙ ap Some c.in-None.is)

pub returns-then-is_again : goal.returns-then-is_again
returns-then-is_again c = conn_again _ _ _ _ c.in-Some.found (slice_get-get_or c.args.targets.now c.args.number None c.requires ∙ ap Some c.in-Some.is) (sym c.is_again.ensures ∙ c.if-is_again.true)

pub returns-else-is_again : goal.returns-else-is_again
returns-else-is_again c = conn_fine _ _ _ _ c.in-Some.found (slice_get-get_or c.args.targets.now c.args.number None c.requires ∙ ap Some c.in-Some.is) (sym c.is_again.ensures ∙ c.if-is_again.false)
