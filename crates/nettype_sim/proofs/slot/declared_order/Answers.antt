use Rattle.std.proofs.Common.{◌∙◌, ◌++◌, ap, sym, List, ℕ, [], ◌∷◌, add-one}
use Rattle.nettype_sim.proofs.Steps.{range_from_0}
use Rattle.nettype_sim.proofs.slot.declared_order.Goals as goal

pub loop-slot-preserved : goal.loop-slot-preserved
loop-slot-preserved c =
    rw add-one (c.in_ok-push.ensures.items ∙ ap (λ (l : List ℕ). l ++ c.loop-slot.slot ∷ []) c.loop-slot.invariant ∙ sym (range_from_0 c.loop-slot.slot))
