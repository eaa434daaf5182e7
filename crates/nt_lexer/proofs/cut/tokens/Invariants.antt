use Rattle.std.proofs.Common.{length, ◌+◌, ◌-◌, ◌≡◌, ◌≤◌, List, ◌++◌}
use Rattle.nt_diag.specs.declared.refusal.Refusal.{Refusal}
use Rattle.nt_lexer.specs.declared.kinds.Head.{Head}
use Rattle.nt_lexer.specs.declared.kinds.Token.{Token}
use Rattle.nt_lexer.specs.Cuts.{HasUnit, Lexes, Stuck, place_at}
use Rattle.nt_lexer.proofs.cut.tokens.Given as goal

abbrev pub invariant-loop-at : goal.invariant-loop-at
invariant-loop-at l = record {
  within : l.at ≤ length l.bytes;
  place : l.place ≡ place_at l.fn.file l.bytes l.at;
  offset : l.place.offset ≡ l.at;
  line : l.place.line ≤ l.place.offset + 1;
  column : l.place.column ≤ l.place.offset + 1;
  unit : HasUnit l.head → HasUnit l.now;
  count : l.now.count ≤ 1000000;
  lexes : (ts : List Token) (last : Head) → Lexes l.fn.file l.bytes l.at l.now ts last → Lexes l.fn.file l.bytes 0 l.head (l.found.items ++ ts) last;
  stuck : (refusal : Refusal) → Stuck l.fn.file l.bytes l.at l.now refusal → Stuck l.fn.file l.bytes 0 l.head refusal;
}

abbrev pub decreases-loop-at : goal.decreases-loop-at
decreases-loop-at l = length l.bytes - l.at
