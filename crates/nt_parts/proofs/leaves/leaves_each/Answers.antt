use Rattle.std.proofs.Common.{length, ap, arith}
use Rattle.nt_parts.proofs.Numbers.{inside}
use Rattle.nt_parts.proofs.leaves.leaves_each.Goals as goal

pub returns-clause-within : goal.returns-clause-within
returns-clause-within c position low =
    let e = ap length c.items.ensures.value in
    let w = c.items.ensures.within in
    inside position c.args.size (length c.items.result.now) 64 low (omega (arith, e, w))
