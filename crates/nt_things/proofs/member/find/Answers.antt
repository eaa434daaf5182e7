use Rattle.std.proofs.Common.{sym, ap, ◌+◌, ◌∙◌}
use Rattle.nt_things.proofs.Naming.{opened}
use Rattle.nt_things.proofs.Finding.{finding_more}
use Rattle.nt_things.proofs.member.find.Goals as goal

pub loop-own-preserved : goal.loop-own-preserved
loop-own-preserved c =
    finding_more c.args.members.now c.args.name.now c.loop-own.own-index c.loop-own.first _ (opened c.args.members.now c.loop-own.own-index _ c.loop-own-test.true c.loop-own-item.is) c.loop-own.invariant
    (sym c.is.ensures ∙ c.if-is.false) _ (ap (λ n. c.loop-own.first + n) c.in_ok-count.ensures)
