use Rattle.std.proofs.Common.{◌≡◌, ◌++◌, take}
use Rattle.nt_semantics.specs.Texts.{order_text}
use Rattle.nt_witness.proofs.entries.print_order.Given as goal

abbrev pub invariant-loop-slot : goal.invariant-loop-slot
invariant-loop-slot l = l.out ≡ l.initial.out ++ order_text (take l.slot-index l.order)
