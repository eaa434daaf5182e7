use Rattle.nt_typing.specs.Typing as ty
use Rattle.nt_typing.specs.Faults as fa
use Rattle.nt_forms.proofs.Finishing.{gives_usable}
use Rattle.nt_things.proofs.Using.{item_usable}
use Rattle.nt_ast.specs.declared.expr.Expr.TheOpen.{Expr-F}
use Rattle.nt_forms.proofs.selects.item_form.Goals as goal

pub finish-requires : goal.finish-requires
finish-requires c = gives_usable _ _ (λ h e. item_usable c.args.of h _ _ c.requires.usable e) c.item_of.ensures

pub returns : goal.returns
returns c = λ s x y b i. c.finish.ensures s (Expr-F.Item c.args.at x y) _ c.item_of.ensures (λ h g. ty.item c.args.at x y b i g) (λ r g. fa.item c.args.at x y b i g)
