use Rattle.std.proofs.Common.{◌≡◌, drop}
use Rattle.nt_semantics.specs.Step.{all_below}
use Rattle.nt_machine.proofs.order.all_below.Given as goal

abbrev pub invariant-loop-number : goal.invariant-loop-number
invariant-loop-number l = all_below l.count (drop l.number-index l.numbers) ≡ all_below l.count l.numbers
