use Rattle.std.proofs.Common.{◌≡◌, drop}
use Rattle.nt_semantics.specs.Same.{is_listed}
use Rattle.nt_machine.proofs.order.has.Given as goal

abbrev pub invariant-loop-other : goal.invariant-loop-other
invariant-loop-other l = is_listed l.number (drop l.other-index l.numbers) ≡ is_listed l.number l.numbers
