use Rattle.std.proofs.Common.{refl, inl, subst}
use Rattle.nt_interconnect.specs.Types.{Matches, has, nettype, nettypes}
use Rattle.nt_interconnect.specs.declared.types.NetType.TheVariants as net
use Rattle.nt_interconnect.specs.declared.types.SegmentKind.TheVariants as kind
use Rattle.nt_interconnect.proofs.types.nettypes.Goals as goal

pub returns-then-before-next : goal.returns-then-before-next
returns-then-before-next c =
    inl (refl, subst (λ n. Matches (net.User c.args.before) (kind.User n)) c.if-before-next.true (has (net.User c.args.before) (kind.User c.args.before) (nettype c.args.before)))

pub returns-else-before-next : goal.returns-else-before-next
returns-else-before-next c = (net.User c.args.next, nettype c.args.next, nettypes c.args.before c.args.next c.if-before-next.false)
