use Rattle.std.proofs.Common.{◌≡◌, ◌++◌, drop}
use Rattle.nt_semantics.specs.Lines.{Anything, text_from}
use Rattle.nt_lines.specs.Formats.{expected_in}
use Rattle.nt_lines.proofs.line.line_of.Given as goal

abbrev pub invariant-loop-byte : goal.invariant-loop-byte
invariant-loop-byte l =
    l.line ++ text_from (expected_in l.next) (drop l.byte-index l.byte-items) l.left ≡ text_from Anything l.byte-items l.fn.values
