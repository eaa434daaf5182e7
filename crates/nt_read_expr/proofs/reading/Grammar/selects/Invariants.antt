use Rattle.std.proofs.Common.{◌≡◌, ◌≤◌, length, ◌+◌, ◌-◌, ◌*◌}
use Rattle.nt_read_expr.specs.Reader as spec
use Rattle.nt_read_expr.specs.Reader.{below}
use Rattle.nt_read_expr.proofs.reading.Grammar.selects.Given as goal

abbrev pub invariant-loop-turn : goal.invariant-loop-turn
invariant-loop-turn g l =
    spec.selects l.self.limit (below l.self.limit l.self.depth) l.free (l.self.limit + 1) l.at l.fn.of l.fn.tokens ≡ spec.selects l.self.limit (below l.self.limit l.self.depth) l.free (l.self.limit + 1 - l._turn) l.at l.whole l.rest
