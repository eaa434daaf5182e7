use Rattle.std.proofs.Common.{◌≡◌, ◌-◌, ◌≤◌, length, drop, false}
use Rattle.nt_lexer.specs.Pieces.{inside_len, plus}
use Rattle.nt_lexer.proofs.texts.inside_len.Given as goal

abbrev pub invariant-loop-at : goal.invariant-loop-at
invariant-loop-at l = (plus l.at (inside_len l.escaped (drop l.at l.text)) ≡ inside_len false l.text) × (l.at ≤ length l.text)

abbrev pub decreases-loop-at : goal.decreases-loop-at
decreases-loop-at l = length l.text - l.at
