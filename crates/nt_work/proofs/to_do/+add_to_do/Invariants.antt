use Rattle.std.proofs.Common.{◌≡◌, ◌++◌, take}
use Rattle.std.specs.List.{flat_map}
use Rattle.nt_semantics.specs.State.{to_do}
use Rattle.nt_work.proofs.to_do.+add_to_do.Given as goal

abbrev pub invariant-loop-inner : goal.invariant-loop-inner
invariant-loop-inner l = l.items ≡ l.fn.items ++ flat_map to_do (take l.inner-index l.inner-items)
