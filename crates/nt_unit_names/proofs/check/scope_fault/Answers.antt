use Rattle.nt_unit_names.proofs.Naming.{scope_turn, scope_end, ended}
use Rattle.nt_unit_names.proofs.check.scope_fault.Goals as goal

pub loop-item-preserved : goal.loop-item-preserved
loop-item-preserved c =
    λ before h. scope_turn before c.item-item.result c.in_ok-fault.fault c.earlier-least.result c.loop-item-test.true c.item-item.is (c.loop-item.invariant before h) c.in_ok-fault.ensures c.earlier-least.ensures

pub returns : goal.returns
returns c = λ before h. scope_end before (ended _ _ c.loop-item.auto.item-index-end c.loop-item-test.false) (c.loop-item.invariant before h)
