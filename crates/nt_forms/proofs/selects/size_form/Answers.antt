use Rattle.nt_typing.specs.Typing as ty
use Rattle.nt_typing.specs.Faults as fa
use Rattle.nt_forms.proofs.Finishing.{gives_usable}
use Rattle.nt_things.proofs.Using.{size_usable}
use Rattle.nt_ast.specs.declared.expr.Expr.TheOpen.{Expr-F}
use Rattle.nt_forms.proofs.selects.size_form.Goals as goal

pub finish-requires : goal.finish-requires
finish-requires c = gives_usable _ _ (λ h e. size_usable c.args.of h e) c.size_of.ensures

pub returns : goal.returns
returns c = λ s x b. c.finish.ensures s (Expr-F.Size c.args.at x) _ c.size_of.ensures (λ h g. ty.size c.args.at x b g) (λ r g. fa.size c.args.at x b g)
