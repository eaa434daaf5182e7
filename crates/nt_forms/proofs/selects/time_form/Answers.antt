use Rattle.nt_typing.specs.Typing as ty
use Rattle.nt_typing.specs.Faults as fa
use Rattle.nt_forms.proofs.Finishing.{gives_usable}
use Rattle.nt_things.proofs.Using.{time_usable}
use Rattle.nt_ast.specs.declared.expr.Expr.TheOpen.{Expr-F}
use Rattle.nt_forms.proofs.selects.time_form.Goals as goal

pub finish-requires : goal.finish-requires
finish-requires c = gives_usable _ _ (λ h e. time_usable c.args.scope.now.inside h e) c.time_of.ensures

pub returns : goal.returns
returns c = c.finish.ensures c.args.scope.now (Expr-F.Time c.args.at) _ c.time_of.ensures (λ h g. ty.time c.args.at g) (λ r g. fa.time c.args.at g)
