use Rattle.std.proofs.Common.{ap, map, None}
use Rattle.nt_types.specs.Parts.{param_part}
use Rattle.nt_types.proofs.Adding.{adds_none, adds_more, adds_same, map_more, take_whole}
use Rattle.nt_types.proofs.parts.add_params.Goals as goal

pub loop-kind-init : goal.loop-kind-init
loop-kind-init c = adds_none c.args.scope.now c.args.all.now

pub loop-kind-preserved : goal.loop-kind-preserved
loop-kind-preserved c =
    adds_same _ _ (map_more (λ p. param_part None p.1) c.args.params.now c.loop-kind._kind-index c.loop-kind-item.result c.loop-kind-test.true c.loop-kind-item.is) (adds_more c.loop-kind.invariant (rw c.get.ensures at c.in_ok-add_own_param.ensures))

pub returns : goal.returns
returns c = adds_same _ _ (ap (map (λ p. param_part None p.1)) (take_whole c.args.params.now c.loop-kind._kind-index c.loop-kind-test.false)) c.loop-kind.invariant
