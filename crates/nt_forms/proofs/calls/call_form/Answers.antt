use Rattle.nt_typing.specs.Typing as ty
use Rattle.nt_typing.specs.Faults as fa
use Rattle.nt_forms.proofs.Finishing.{gives_usable}
use Rattle.nt_things.proofs.Using.{answer_usable}
use Rattle.nt_ast.specs.declared.expr.Expr.TheOpen.{Expr-F}
use Rattle.nt_forms.proofs.calls.call_form.Goals as goal

pub finish-requires : goal.finish-requires
finish-requires c = gives_usable _ _ (λ h e. answer_usable _ _ _ h c.requires.result e) c.answer_of.ensures

pub returns : goal.returns
returns c = λ s path xs e p. c.finish.ensures s (Expr-F.Call c.args.at path xs) _ c.answer_of.ensures (λ h g. ty.call c.args.at path xs e p g) (λ r g. fa.worthless c.args.at path xs e p g)
