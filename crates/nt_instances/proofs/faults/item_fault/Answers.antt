use Rattle.std.proofs.Common.{subst}
use Rattle.nt_diag.specs.Order.{IsLeastOf}
use Rattle.nt_instances.specs.Faults.{HeadFault}
use Rattle.nt_instances.proofs.Faulting.{instance_all, seen_instance}
use Rattle.nt_instances.proofs.faults.item_fault.Goals as goal

pub returns-in_ok-of_head-in-Instance : goal.returns-in_ok-of_head-in-Instance
returns-in_ok-of_head-in-Instance c =
    let found = c.find-found.result in
    let r = c.in_ok-of_head-in-Instance.of_head in
    let head : IsLeastOf (HeadFault c.args.modules.now c.in-Instance.params c.in-Instance.ports found) r =
    subst (λ qs. IsLeastOf (HeadFault c.args.modules.now c.in-Instance.params qs found) r) c.as_slice-in-Instance.ensures
    (subst (λ ps. IsLeastOf (HeadFault c.args.modules.now ps c.as_slice-in-Instance.result.now found) r) c.as_slice.ensures c.in_ok-of_head-in-Instance.ensures) in
    instance_all c.args.modules.now c.args.row.now c.args.number c.args.item.now _ _ _ _ _ _ found _ _ _ (seen_instance _ _ _ _ _ _ _ c.in-Instance.is) c.find-found.ensures c.module_fault-of_module.ensures head c.earlier.ensures
