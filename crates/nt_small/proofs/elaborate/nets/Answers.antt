use Rattle.nt_small.proofs.Gathering.{one_more_net}
use Rattle.nt_small.proofs.elaborate.nets.Goals as goal

pub loop-at-preserved : goal.loop-at-preserved
loop-at-preserved c = λ driven is.
    one_more_net _ driven _ _ _ _ _ _ _ _ c.name.ensures c.driver.ensures is c.in_ok-net.ensures (c.loop-at.invariant driven is) c.in_ok-push.ensures.ok
