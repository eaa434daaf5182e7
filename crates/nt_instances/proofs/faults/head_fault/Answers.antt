use Rattle.std.proofs.Common.{ap, ◌∙◌, map}
use Rattle.nt_instances.proofs.Faulting.{head_all}
use Rattle.nt_instances.proofs.faults.head_fault.Goals as goal

pub returns : goal.returns
returns c = head_all c.args.modules.now c.args.params.now c.args.ports.now c.in-Some.found c.args.found _ _ _ _ _ c.in-Some.is
    (ap (map (λ n. n.now)) c.deref.ensures.value ∙ c.in_ok-param_names.ensures) (ap (map (λ n. n.now)) c.deref-2.ensures.value ∙ c.in_ok-port_names.ensures) c.in_ok-of_params.ensures c.in_ok-of_ports.ensures c.earlier.ensures
