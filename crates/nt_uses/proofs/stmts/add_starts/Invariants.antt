use Rattle.std.proofs.Common.{◌≡◌, drop}
use Rattle.nt_types.specs.Opened.{view_of}
use Rattle.nt_uses.specs.Uses.{here}
use Rattle.nt_uses.specs.Statements.{starts_uses}
use Rattle.nt_uses.proofs.stmts.add_starts.Given as goal

abbrev pub invariant-loop-kind : goal.invariant-loop-kind
invariant-loop-kind l = starts_uses l.locals (here (view_of l.scopes) l.body.own.now.names l.body.loops) l.fn.all ≡ starts_uses (drop l._kind-index l.locals) (here (view_of l.scopes) l.body.own.now.names l.body.loops) l.all
