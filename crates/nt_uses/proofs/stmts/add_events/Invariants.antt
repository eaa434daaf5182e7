use Rattle.std.proofs.Common.{◌≡◌, drop}
use Rattle.nt_types.specs.Opened.{view_of}
use Rattle.nt_uses.specs.Uses.{here}
use Rattle.nt_uses.specs.Statements.{events_uses}
use Rattle.nt_uses.proofs.stmts.add_events.Given as goal

abbrev pub invariant-loop-edge : goal.invariant-loop-edge
invariant-loop-edge l = events_uses l.events (here (view_of l.scopes) l.body.own.now.names l.body.loops) l.fn.all ≡ events_uses (drop l._edge-index l.events) (here (view_of l.scopes) l.body.own.now.names l.body.loops) l.all
