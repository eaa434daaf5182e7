use Rattle.std.proofs.Common.{◌∙◌, ap, refl, arith, List, ℕ, length}
use Rattle.std.specs.List.{range_with_len}
use Rattle.nt_semantics.specs.Step.{is_order}
use Rattle.nettype_sim.proofs.Orders.{range_is_order, few_slots}
use Rattle.nettype_sim.proofs.slot.resolution_of.Goals as goal

pub declared_order-requires : goal.declared_order-requires
declared_order-requires c =
    omega (arith, c.len.ensures, few_slots c.args.design.now c.args.net c.net_at.result.now c.requires.design c.net_at.ensures)

pub returns : goal.returns
returns c =
    (refl, c.net_at.result.now, c.net_at.ensures, ap (λ (o : List ℕ). is_order (length c.net_at.result.now.slots) o) (c.in_ok-order.ensures ∙ ap (range_with_len 0) c.len.ensures) ∙ range_is_order (length c.net_at.result.now.slots))
