use Rattle.std.proofs.Common.{◌≡◌, ◌≤◌, length, ◌+◌, ◌-◌, ◌*◌}
use Rattle.nt_read_expr.specs.Reader as spec
use Rattle.nt_read_expr.specs.Reader.{below}
use Rattle.nt_read_expr.proofs.reading.Grammar.+chain.Given as goal

abbrev pub decreases-chain : goal.decreases-chain
decreases-chain g l = l.height

abbrev pub invariant-loop-turn : goal.invariant-loop-turn
invariant-loop-turn g l = record {
  reads : spec.chain l.self.limit (below l.self.limit l.self.depth) l.height l.fn.tokens
      ≡ spec.more l.self.limit (below l.self.limit l.self.depth) (spec.chain l.self.limit (below l.self.limit l.self.depth) (l.height - 1)) l.height (l.self.limit + 1 - l._turn) l.at l.left l.count l.rest;
  few : l.count ≤ l.self.limit;
}
