use Rattle.std.proofs.Common.{◌≡◌, ◌+◌, ◌≤◌, take}
use Rattle.nt_lexer.specs.Steps.{Moved}
use Rattle.nt_lexer.proofs.cut.advance.Given as goal

abbrev pub invariant-loop-b : goal.invariant-loop-b
invariant-loop-b l = record {
  place : Moved l.fn.start (take l.b-index l.text) l.at;
  offset : l.at.offset ≡ l.fn.start.offset + l.b-index;
  line : l.at.line ≤ l.at.offset + 1;
  column : l.at.column ≤ l.at.offset + 1;
}
