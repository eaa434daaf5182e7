use Rattle.std.specs.Prelude.{◌≡◌}
use Rattle.nt_patterns.proofs.Planning.{counted}
use Rattle.nt_patterns.proofs.plans.in_turn.Given as goal

abbrev pub invariant-loop-index : goal.invariant-loop-index
invariant-loop-index l = l.all.items ≡ counted l.index
