use Rattle.std.proofs.Common.{sym, subst}
use Rattle.nt_diag.specs.declared.rule.Rule.TheVariants.{P5}
use Rattle.nt_interconnect.specs.Types.{IsUnlike, built_in_first, nettype_first}
use Rattle.nt_interconnect.specs.declared.types.NetType.TheVariants as net
use Rattle.nt_interconnect.proofs.Joining.{leaf_of, nettype_of, stays, begins, clashes}
use Rattle.nt_interconnect.proofs.types.joined.Goals as goal

pub returns-in_default-Interconnect : goal.returns-in_default-Interconnect
returns-in_default-Interconnect c = stays c.args.before c.args.next c.in_default-Interconnect.is-1

pub returns-in-Untyped-BuiltIn : goal.returns-in-Untyped-BuiltIn
returns-in-Untyped-BuiltIn c =
    let x = c.in-Untyped-BuiltIn in
    begins c.args.before c.args.next (net.BuiltIn x.leaf) x.is-0 (leaf_of c.args.next x.leaf x.is-1)

pub returns-in-User-BuiltIn : goal.returns-in-User-BuiltIn
returns-in-User-BuiltIn c =
    let x = c.in-User-BuiltIn in
    let l = x.field-0-1 in
    clashes c.args.before c.args.next (net.BuiltIn l) P5 (leaf_of c.args.next l x.is-1)
    (subst (λ t. IsUnlike t (net.BuiltIn l) P5) (sym x.is-0) (nettype_first x.field-0-0 l))

pub returns-in-Untyped-User : goal.returns-in-Untyped-User
returns-in-Untyped-User c =
    let x = c.in-Untyped-User in
    begins c.args.before c.args.next (net.User x.nettype) x.is-0 (nettype_of c.args.next x.nettype x.is-1)

pub returns-in-BuiltIn-User : goal.returns-in-BuiltIn-User
returns-in-BuiltIn-User c =
    let x = c.in-BuiltIn-User in
    let n = x.field-0-1 in
    clashes c.args.before c.args.next (net.User n) P5 (nettype_of c.args.next n x.is-1)
    (subst (λ t. IsUnlike t (net.User n) P5) (sym x.is-0) (built_in_first x.field-0-0 n))
