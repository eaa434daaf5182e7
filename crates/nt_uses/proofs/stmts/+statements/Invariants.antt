use Rattle.std.proofs.Common.{◌≡◌, List, map, drop}
use Rattle.nt_ast.specs.declared.expr.Expr.{Expr}
use Rattle.nt_ast.specs.declared.stmt.Stmt.{Stmt}
use Rattle.nt_types.specs.Opened.{view_of}
use Rattle.nt_uses.specs.Uses.{here, all_of}
use Rattle.nt_uses.specs.Statements.{arms_uses, stmt_uses}
use Rattle.nt_uses.proofs.stmts.+statements.Given as goal

abbrev pub invariant-add_block-loop-item : goal.invariant-add_block-loop-item
invariant-add_block-loop-item l = all_of (map stmt_uses l.items) (here (view_of l.scopes) l.body.own.now.names l.body.loops) l.fn.all ≡ all_of (map stmt_uses (drop l.item-index l.items)) (here (view_of l.scopes) l.body.own.now.names l.body.loops) l.all

abbrev pub invariant-add_arms-loop-exprs : goal.invariant-add_arms-loop-exprs
invariant-add_arms-loop-exprs l =
    arms_uses (map (λ (p : List Expr × Stmt). (p.0, stmt_uses p.1)) l.arms) (here (view_of l.scopes) l.body.own.now.names l.body.loops) l.fn.all
    ≡ arms_uses (map (λ (p : List Expr × Stmt). (p.0, stmt_uses p.1)) (drop l.exprs-index l.arms)) (here (view_of l.scopes) l.body.own.now.names l.body.loops) l.all
