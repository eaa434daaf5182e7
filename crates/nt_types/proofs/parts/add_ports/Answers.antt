use Rattle.std.proofs.Common.{ap, map}
use Rattle.nt_types.specs.Parts.{port_part}
use Rattle.nt_types.proofs.Adding.{adds_none, adds_more, adds_same, map_more, take_whole}
use Rattle.nt_types.proofs.parts.add_ports.Goals as goal

pub loop-port-init : goal.loop-port-init
loop-port-init c = adds_none c.args.scope.now c.args.all.now

pub loop-port-preserved : goal.loop-port-preserved
loop-port-preserved c =
    adds_same _ _ (map_more port_part c.args.ports.now c.loop-port.port-index c.port-item.result c.loop-port-test.true c.port-item.is) (adds_more c.loop-port.invariant (rw c.get.ensures at c.in_ok-add_object.ensures))

pub returns : goal.returns
returns c = adds_same _ _ (ap (map port_part) (take_whole c.args.ports.now c.loop-port.port-index c.loop-port-test.false)) c.loop-port.invariant
