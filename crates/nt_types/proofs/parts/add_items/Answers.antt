use Rattle.std.proofs.Common.{ap}
use Rattle.nt_types.specs.Parts.{all_parts}
use Rattle.nt_types.proofs.Adding.{adds_none, adds_more, adds_same, items_more, take_whole}
use Rattle.nt_types.proofs.parts.add_items.Goals as goal

pub loop-item-init : goal.loop-item-init
loop-item-init c = adds_none c.args.scope.now c.args.all.now

pub loop-item-preserved : goal.loop-item-preserved
loop-item-preserved c =
    adds_same _ _ (items_more c.args.prefix.now c.args.items.now c.loop-item.item-index c.item-item.result c.loop-item-test.true c.item-item.is) (adds_more c.loop-item.invariant c.in_ok-add_item.ensures)

pub returns : goal.returns
returns c = adds_same _ _ (ap (all_parts c.args.prefix.now) (take_whole c.args.items.now c.loop-item.item-index c.loop-item-test.false)) c.loop-item.invariant
