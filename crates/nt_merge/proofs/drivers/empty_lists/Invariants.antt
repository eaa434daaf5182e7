use Rattle.std.proofs.Common.{◌≡◌, replicate, []}
use Rattle.nt_merge.specs.Numbers.{contents}
use Rattle.nt_merge.proofs.drivers.empty_lists.Given as goal

abbrev pub invariant-loop-k : goal.invariant-loop-k
invariant-loop-k l = contents l.lists.items ≡ replicate l.k []
