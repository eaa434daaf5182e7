use Rattle.std.proofs.Common.{◌≡◌, get_or, map, take}
use Rattle.nt_semantics.specs.State.{value_at}
use Rattle.nt_puts.proofs.drivers.in_order.Given as goal

abbrev pub invariant-loop-slot : goal.invariant-loop-slot
invariant-loop-slot l = l.values ≡ map (λ slot. value_at l.slots (get_or l.drivers slot 0)) (take l.slot-index l.order)
