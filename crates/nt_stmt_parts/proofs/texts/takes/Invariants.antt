use Rattle.std.proofs.Common.{◌≡◌, drop}
use Rattle.nt_typed_stmts.specs.Tables.{Anything, is_taken, taken_from}
use Rattle.nt_stmt_parts.specs.Texts.{after}
use Rattle.nt_stmt_parts.proofs.texts.takes.Given as goal

abbrev pub invariant-loop-byte : goal.invariant-loop-byte
invariant-loop-byte l = after l.state (drop l.byte-index l.byte-items) ≡ is_taken (taken_from Anything l.byte-items) l.fn.count
