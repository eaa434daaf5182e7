use Rattle.std.proofs.Common.{false, refl, inl, subst}
use Rattle.std.specs.Prelude.{IsTrue}
use Rattle.nt_interconnect.specs.Types.{Matches, has, leaf, leaves}
use Rattle.nt_interconnect.specs.declared.types.NetType.TheVariants as net
use Rattle.nt_interconnect.specs.declared.types.SegmentKind.TheVariants as kind
use Rattle.nt_interconnect.proofs.types.leaves.Goals as goal

pub returns-then-is_same : goal.returns-then-is_same
returns-then-is_same c =
    let same = c.is_same.ensures.0 c.if-is_same.true in
    inl (refl, subst (λ l. Matches (net.BuiltIn c.args.before) (kind.BuiltIn l)) same (has (net.BuiltIn c.args.before) (kind.BuiltIn c.args.before) (leaf c.args.before)))

no_truth : IsTrue false → ⊥
no_truth t = absurd cc

pub returns-else-is_same : goal.returns-else-is_same
returns-else-is_same c = (net.BuiltIn c.args.next, leaf c.args.next, leaves c.args.before c.args.next (λ same. no_truth (c.if-is_same.ensures.1 same)))
