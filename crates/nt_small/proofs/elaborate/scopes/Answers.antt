use Rattle.nt_small.proofs.Scopes.{one_more_name}
use Rattle.nt_small.proofs.elaborate.scopes.Goals as goal

pub loop-at-preserved : goal.loop-at-preserved
loop-at-preserved c =
    one_more_name _ _ _ _ _ _ _ c.name.ensures c.in_ok-scoped-2.ensures c.loop-at.invariant c.in_ok-push-2.ensures.ok
