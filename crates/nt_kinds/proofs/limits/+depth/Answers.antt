use Rattle.std.proofs.Common.{◌≡◌, ◌∙◌, arith}
use Rattle.std.specs.Prelude.{max}
use Rattle.std.proofs.lemmas.Grind.{common_steps}
use Rattle.nt_kinds.proofs.Counting.{depth_turn}
use Rattle.nt_kinds.proofs.limits.+depth.Goals as goal

pub members_depth-loop-name-preserved : goal.members_depth-loop-name-preserved
members_depth-loop-name-preserved t c = let e : c.max-all.result ≡ max c.loop-name.all c.depth.result = grind (arith, common_steps, c.max-all.ensures) in e ∙ depth_turn c.args.members.now c.loop-name._name-index c.loop-name-item.result c.loop-name.all c.depth.result c.loop-name-test.true c.loop-name-item.is c.loop-name.invariant c.depth.ensures
