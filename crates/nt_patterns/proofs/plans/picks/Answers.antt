use Rattle.nt_patterns.proofs.Arrays.{array_picks}
use Rattle.nt_patterns.proofs.plans.picks.Goals as goal

pub returns-in-Array : goal.returns-in-Array
returns-in-Array c = array_picks (λ v. v.items) c.args.items.now c.args.kind.now c.in-Array.left c.in-Array.right c.span.result c.in-Array.element c.element_picks.result c.in-Array.is c.span.ensures c.element_picks.ensures
