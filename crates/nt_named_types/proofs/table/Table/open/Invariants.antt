use Rattle.std.proofs.Common.{take}
use Rattle.nt_types.specs.Opened.{view_of}
use Rattle.nt_named_types.specs.Judged.{AreJudged}
use Rattle.nt_named_types.proofs.table.Table.open.Given as goal

abbrev pub invariant-loop-what : goal.invariant-loop-what
invariant-loop-what l = AreJudged (view_of l.scopes) l.known (take l.what-index l.what-items) l.table
