use Rattle.std.proofs.Common.{sym, ◌∙◌}
use Rattle.nt_nettype.proofs.Resolving.{one_item, takes_told}
use Rattle.nt_nettype.proofs.resolver.takes.Goals as goal

pub returns-then-function : goal.returns-then-function
returns-then-function c =
    takes_told c.args.function.now c.args.kind.now c.own-item.result c.equivalent.result c.if-function.true
    (sym c.as_slice.ensures ∙ one_item c.as_slice.result.now c.own-item.result c.in-len1.len_at_least c.in-len1.len_below c.own-item.is) c.equivalent.ensures
