use Rattle.nt_types.specs.Opened.{view_of}
use Rattle.nt_uses.specs.Uses.{here}
use Rattle.nt_uses.proofs.Stating.{if_told, case_told}
use Rattle.nt_uses.proofs.stmts.+statements.Goals as goal

pub add_stmt-returns-in_ok-add_stmt-in-If : goal.add_stmt-returns-in_ok-add_stmt-in-If
add_stmt-returns-in_ok-add_stmt-in-If t c =
    if_told c.add_optional.result c.args.stmt.now c.in-If.at c.in-If.test c.in-If.yes c.in-If.no (here (view_of c.args.scopes.now) c.args.body.now.own.now.names c.args.body.now.loops)
    _ _ _ _ c.in-If.is c.in_ok-add-in-If.ensures (rw c.get.ensures at c.in_ok-add_stmt-in-If.ensures) c.add_optional.ensures

pub add_stmt-returns-in_ok-add_arms-in-Case : goal.add_stmt-returns-in_ok-add_arms-in-Case
add_stmt-returns-in_ok-add_arms-in-Case t c =
    case_told c.add_optional-in-Case.result c.args.stmt.now c.in-Case.at c.in-Case.test c.in-Case.arms c.in-Case.other (here (view_of c.args.scopes.now) c.args.body.now.own.now.names c.args.body.now.loops)
    _ _ _ _ c.in-Case.is c.in_ok-add-in-Case.ensures (rw c.as_slice-in-Case.ensures at c.in_ok-add_arms-in-Case.ensures) c.add_optional-in-Case.ensures
