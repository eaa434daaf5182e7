use Rattle.nt_typing.specs.Typing as ty
use Rattle.nt_typing.specs.Faults as fa
use Rattle.nt_forms.proofs.Finishing.{gives_usable}
use Rattle.nt_things.proofs.Using.{indexed_usable}
use Rattle.nt_ast.specs.declared.expr.Expr.TheOpen.{Expr-F}
use Rattle.std.proofs.Common.{sym, ap, ◌∙◌}
use Rattle.nt_typing.specs.Tables.{indexed_of}
use Rattle.nt_forms.proofs.selects.indexed_form.Goals as goal

pub finish-requires : goal.finish-requires
finish-requires c = gives_usable _ _ (λ h e. indexed_usable c.args.of h _ _ _ _ e) c.indexed_of.ensures

pub returns : goal.returns
returns c = λ s x y z b i u. c.finish.ensures s (Expr-F.Indexed c.args.at x y z c.args.up) _ c.indexed_of.ensures (λ h g. ty.indexed c.args.at x y z c.args.up b i u.constant u.is_known (sym (ap (indexed_of c.args.of c.args.up c.args.base.size c.args.base.tree) u.is) ∙ g)) (λ r g. fa.indexed c.args.at x y z c.args.up b i u.constant u.is_known (sym (ap (indexed_of c.args.of c.args.up c.args.base.size c.args.base.tree) u.is) ∙ g))
