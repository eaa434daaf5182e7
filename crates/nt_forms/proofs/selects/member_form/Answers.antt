use Rattle.nt_typing.specs.Typing as ty
use Rattle.nt_things.proofs.Using.{member_usable}
use Rattle.nt_forms.proofs.Finishing.{member_err}
use Rattle.nt_ast.specs.declared.expr.Expr.TheOpen.{Expr-F}
use Rattle.nt_forms.proofs.selects.member_form.Goals as goal

pub thing_draft-requires : goal.thing_draft-requires
thing_draft-requires c = member_usable c.args.of c.in-Ok.thing c.args.name.now c.requires c.in-Ok.ensures

pub returns-in_ok-thing_draft-in-Ok : goal.returns-in_ok-thing_draft-in-Ok
returns-in_ok-thing_draft-in-Ok c = λ s x b. c.in_ok-thing_draft-in-Ok.ensures s (Expr-F.Member c.args.at x c.args.name_at c.args.name.now) (ty.member c.args.at x c.args.name_at c.args.name.now b c.in-Ok.ensures)

pub returns-in-Err : goal.returns-in-Err
returns-in-Err c = λ s x b. member_err s c.args.at x c.args.name_at c.args.name.now c.args.of c.in-Err.unfit c.member_fault.result c.member_fault.ensures b c.in-Err.ensures
