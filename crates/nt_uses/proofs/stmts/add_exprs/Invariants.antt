use Rattle.std.proofs.Common.{◌≡◌, drop}
use Rattle.nt_types.specs.Opened.{view_of}
use Rattle.nt_uses.specs.Uses.{here}
use Rattle.nt_uses.specs.Statements.{exprs_uses}
use Rattle.nt_uses.proofs.stmts.add_exprs.Given as goal

abbrev pub invariant-loop-expr : goal.invariant-loop-expr
invariant-loop-expr l = exprs_uses l.exprs (here (view_of l.scopes) l.body.own.now.names l.body.loops) l.fn.all ≡ exprs_uses (drop l.expr-index l.exprs) (here (view_of l.scopes) l.body.own.now.names l.body.loops) l.all
