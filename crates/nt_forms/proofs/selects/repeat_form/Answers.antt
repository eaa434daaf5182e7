use Rattle.nt_typing.specs.Typing as ty
use Rattle.nt_typing.specs.Faults as fa
use Rattle.nt_forms.proofs.Finishing.{gives_usable}
use Rattle.std.proofs.Common.{arith, ap, sym, ◌*◌, ◌∙◌}
use Rattle.nt_typing.specs.Tables.{concat_thing, copies}
use Rattle.nt_things.proofs.Using.{concat_usable}
use Rattle.nt_ast.specs.declared.expr.Expr.TheOpen.{Expr-F}
use Rattle.nt_forms.proofs.selects.repeat_form.Goals as goal

pub finish-requires : goal.finish-requires
finish-requires c =
    gives_usable _ _ (λ h e. concat_usable (c.from.result * c.args.all.width) c.args.all.four (copies c.from.result c.args.all.parts) h e) (let le = c.requires in c.repeat_of.ensures c.args.all.width (omega arith))

pub returns : goal.returns
returns c = λ s x xs u p.
    let same = ap (λ n. concat_thing (n * p.width) c.args.all.four (copies n c.args.all.parts)) (sym u.is ∙ sym c.from.ensures) in
    c.finish.ensures s (Expr-F.Repeat c.args.at x xs) _ (c.repeat_of.ensures p.width p.capped)
    (λ h g. ty.repeated c.args.at x xs u.constant u.counts p.several (same ∙ g)) (λ r g. fa.repeated c.args.at x xs u.constant u.counts p.several (same ∙ g))
