use Rattle.std.proofs.Common.{sym, ap, ◌∙◌, length}
use Rattle.nt_instances.proofs.Faulting.{length_targets, conns_least}
use Rattle.nt_instances.proofs.conns.conns_fault.Goals as goal

pub least-least-requires : goal.least-least-requires
least-least-requires c = sym (ap length (c.as_slice.ensures ∙ c.in_ok-targets.ensures) ∙ length_targets _ _)

pub returns : goal.returns
returns c = conns_least _ _ _ _ _ (c.as_slice.ensures ∙ c.in_ok-targets.ensures) c.least-least.ensures
