use Rattle.nt_types.proofs.Scoping.{parts_more, parts_same, refs_more}
use Rattle.nt_types.proofs.units.add_parts.Goals as goal

pub loop-item-preserved : goal.loop-item-preserved
loop-item-preserved c =
    rw c.in_ok-push.ensures.items
    (parts_same _ _ (refs_more (λ x. x.now) c.args.unit.now c.loop-item.item-index c.item-item.result c.loop-item-test.true c.item-item.is)
    (parts_more c.item-item.result.now c.in_ok-scope.scope c.loop-item.invariant c.in_ok-add_item.ensures c.in_ok-scope.ensures))
