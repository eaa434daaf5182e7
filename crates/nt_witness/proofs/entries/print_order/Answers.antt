use Rattle.std.proofs.Common.{◌∷◌, []}
use Rattle.std.specs.Prelude.{decimal}
use Rattle.nt_witness.proofs.Fronting.{none_yet, after_piece, on_any_err, in_item}
use Rattle.nt_witness.proofs.entries.print_order.Goals as goal

pub returns-in_err-push-clause-front : goal.returns-in_err-push-clause-front
returns-in_err-push-clause-front c =
    on_any_err _ _ (in_item (λ slot. 32 ∷ decimal slot) _ c.loop-slot.out _ c.args.order.now c.loop-slot.slot-index 0 c.loop-slot-test.true c.loop-slot.invariant (none_yet _ _ _ c.in_err-push.ensures.err))

pub returns-in_err-push_number-clause-front : goal.returns-in_err-push_number-clause-front
returns-in_err-push_number-clause-front c =
    on_any_err _ _ (in_item (λ slot. 32 ∷ decimal slot) _ c.loop-slot.out _ c.args.order.now c.loop-slot.slot-index 0 c.loop-slot-test.true c.loop-slot.invariant (after_piece _ _ _ (32 ∷ []) _ c.in_ok-push.ensures.ok (none_yet _ _ _ c.in_err-push_number.ensures.err)))
