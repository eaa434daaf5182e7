use Rattle.std.proofs.Common.{◌++◌, sym, ap, ◌∙◌}
use Rattle.nt_kinds.proofs.Counting.{no_leaf, append_none}
use Rattle.nt_kinds.proofs.leaves.+push.Goals as goal

pub push_leaves-returns-then-size-eq0 : goal.push_leaves-returns-then-size-eq0
push_leaves-returns-then-size-eq0 t c =
    sym (ap (λ s. c.args.all.now.items ++ s) (no_leaf c.args.kind.now _ _ c.in-Array.element c.get.result.now c.size.result c.in-Array.is c.get.ensures c.size.ensures c.if-size-eq0.true) ∙ append_none _)
