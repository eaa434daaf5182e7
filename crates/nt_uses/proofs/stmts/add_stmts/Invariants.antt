use Rattle.std.proofs.Common.{◌≡◌, drop}
use Rattle.nt_types.specs.Opened.{view_of}
use Rattle.nt_uses.specs.Uses.{here}
use Rattle.nt_uses.specs.Statements.{stmts_uses}
use Rattle.nt_uses.proofs.stmts.add_stmts.Given as goal

abbrev pub invariant-loop-item : goal.invariant-loop-item
invariant-loop-item l = stmts_uses l.items (here (view_of l.scopes) l.body.own.now.names l.body.loops) l.fn.all ≡ stmts_uses (drop l.item-index l.items) (here (view_of l.scopes) l.body.own.now.names l.body.loops) l.all
