use Rattle.std.proofs.Common.{◌≡◌, ◌<◌, length}
use Rattle.std.specs.List.{All}
use Rattle.nt_merge.proofs.tests.all_to_first.Given as goal

abbrev pub invariant-loop-k : goal.invariant-loop-k
invariant-loop-k l = record { size : length l.driven.items ≡ l.k; first : All (λ segment. segment < 1) l.driven.items }
