use Rattle.std.proofs.Common.{◌∷◌, ◌++◌, [], ◌∙◌, ap}
use Rattle.std.specs.Prelude.{decimal}
use Rattle.nt_witness.proofs.Fronting.{none_yet, after_piece, of_piece, on_any_err}
use Rattle.nt_witness.proofs.entries.print_resolution.Goals as goal

pub returns-in_err-push_number-2-clause-front : goal.returns-in_err-push_number-2-clause-front
returns-in_err-push_number-2-clause-front c =
    on_any_err _ _ (after_piece _ _ _ (114 ∷ 32 ∷ []) _ c.in_ok-push_bytes.ensures.ok (after_piece _ _ _ (decimal c.args.net) _ (c.in_ok-push_number.ensures.ok ∙ ap (λ n. c.push_bytes.new.self ++ decimal n) c.from.ensures) (after_piece _ _ _ (32 ∷ []) _ c.in_ok-push.ensures.ok (none_yet _ _ _ c.in_err-push_number-2.ensures.err))))

pub returns-in_err-print_order-clause-front : goal.returns-in_err-print_order-clause-front
returns-in_err-print_order-clause-front c =
    on_any_err _ _ (after_piece _ _ _ (114 ∷ 32 ∷ []) _ c.in_ok-push_bytes.ensures.ok (after_piece _ _ _ (decimal c.args.net) _ (c.in_ok-push_number.ensures.ok ∙ ap (λ n. c.push_bytes.new.self ++ decimal n) c.from.ensures) (after_piece _ _ _ (32 ∷ []) _ c.in_ok-push.ensures.ok (after_piece _ _ _ (decimal c.args.count) _ c.in_ok-push_number-2.ensures.ok (of_piece _ _ _ _ c.in_err-print_order.ensures.front)))))
