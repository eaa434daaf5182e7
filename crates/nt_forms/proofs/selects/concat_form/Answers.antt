use Rattle.nt_typing.specs.Typing as ty
use Rattle.nt_typing.specs.Faults as fa
use Rattle.nt_forms.proofs.Finishing.{gives_usable}
use Rattle.std.proofs.Common.{arith}
use Rattle.nt_things.proofs.Using.{concat_usable}
use Rattle.nt_ast.specs.declared.expr.Expr.TheOpen.{Expr-F}
use Rattle.nt_forms.proofs.selects.concat_form.Goals as goal

pub finish-requires : goal.finish-requires
finish-requires c = gives_usable _ _ (λ h e. concat_usable c.args.all.width c.args.all.four c.args.all.parts h e) (let le = c.requires in c.concat_of.ensures c.args.all.width (omega arith))

pub returns : goal.returns
returns c = λ s xs p. c.finish.ensures s (Expr-F.Concat c.args.at xs) _ (c.concat_of.ensures p.width p.capped) (λ h g. ty.concat c.args.at xs p.several g) (λ r g. fa.concat c.args.at xs p.several g)
