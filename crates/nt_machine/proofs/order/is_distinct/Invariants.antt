use Rattle.std.proofs.Common.{◌≡◌, length}
use Rattle.nt_semantics.specs.Step.{is_distinct}
use Rattle.nt_machine.proofs.order.is_distinct.Given as goal

abbrev pub invariant-loop-rest : goal.invariant-loop-rest
invariant-loop-rest l = is_distinct l.rest ≡ is_distinct l.numbers

abbrev pub decreases-loop-rest : goal.decreases-loop-rest
decreases-loop-rest l = length l.rest
