use Rattle.std.proofs.Common.{◌≡◌, length, map}
use Rattle.nt_lexer.specs.Directives.{named}
use Rattle.nt_lexer.proofs.scan.lookup.Given as goal

abbrev pub invariant-loop-table : goal.invariant-loop-table
invariant-loop-table g l = named (map (λ m. (m.0.now, m.1)) l.table) l.text ≡ named (map (λ m. (m.0.now, m.1)) l.initial.table) l.text

abbrev pub decreases-loop-table : goal.decreases-loop-table
decreases-loop-table g l = length l.table
