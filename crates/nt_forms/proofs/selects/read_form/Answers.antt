use Rattle.nt_typing.specs.Typing as ty
use Rattle.nt_typing.specs.Faults as fa
use Rattle.nt_forms.proofs.Finishing.{gives_usable}
use Rattle.nt_things.proofs.Using.{name_usable}
use Rattle.nt_ast.specs.Names.{path_name}
use Rattle.nt_ast.specs.declared.expr.Expr.TheOpen.{Expr-F}
use Rattle.nt_forms.proofs.selects.read_form.Goals as goal

pub finish-requires : goal.finish-requires
finish-requires c = gives_usable _ _ (λ h e. name_usable _ h (λ x f. c.requires.means (path_name c.args.path.now) x f) e) c.read_of.ensures

pub returns : goal.returns
returns c = c.finish.ensures c.args.scope.now (Expr-F.Read c.args.at c.args.path.now) _ c.read_of.ensures (λ h g. ty.read c.args.at c.args.path.now g) (λ r g. fa.read c.args.at c.args.path.now g)
