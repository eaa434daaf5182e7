use Rattle.std.proofs.Common.{◌≡◌, length, map}
use Rattle.nt_lexer.specs.Pieces.{first_mark}
use Rattle.nt_lexer.proofs.pieces.first_mark.Given as goal

abbrev pub invariant-loop-table : goal.invariant-loop-table
invariant-loop-table l = first_mark (map (λ m. (m.0.now, m.1)) l.table) l.text ≡ first_mark (map (λ m. (m.0.now, m.1)) l.initial.table) l.text

abbrev pub decreases-loop-table : goal.decreases-loop-table
decreases-loop-table l = length l.table
