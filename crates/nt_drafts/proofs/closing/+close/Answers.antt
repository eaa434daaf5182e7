use Rattle.std.proofs.Common.{ap, sym, ◌∙◌}
use Rattle.nt_drafts.specs.Drafts.{draft_tree}
use Rattle.nt_drafts.proofs.Closed.{closed_is, same_answer, unary_closed, binary_closed}
use Rattle.nt_drafts.proofs.closing.+close.Goals as goal

pub returns-in-Closed : goal.returns-in-Closed
returns-in-Closed t c =
    same_answer c.fitted.result _ _ (sym (closed_is c.in-Closed.size c.in-Closed.kind c.in-Closed.tree c.args.context) ∙ ap (λ d. draft_tree d c.args.context) c.in-Closed.ensures) c.fitted.ensures

pub returns-in-Unary : goal.returns-in-Unary
returns-in-Unary t c =
    same_answer c.fitted-in-Unary.result _ _ (unary_closed c.in-Unary.size c.in-Unary.op c.in-Unary.inner c.in-Unary.of c.args.context _ _ _ _ c.unary_context-operand.ensures c.in_ok-of-in-Unary.ensures c.in_ok-tree-in-Unary.ensures c.unary_leaf.ensures ∙ ap (λ d. draft_tree d c.args.context) c.in-Unary.ensures) c.fitted-in-Unary.ensures

pub returns-in-Binary : goal.returns-in-Binary
returns-in-Binary t c =
    same_answer c.fitted-in-Binary.result _ _ (binary_closed c.in-Binary.size c.in-Binary.op c.in-Binary.first c.in-Binary.left c.in-Binary.second c.in-Binary.right c.args.context _ _ _ _ _ _ c.left_of-a.ensures c.right_of-b.ensures c.in_ok-left-in-Binary.ensures c.in_ok-right-in-Binary.ensures c.in_ok-tree-in-Binary.ensures c.binary_leaf.ensures ∙ ap (λ d. draft_tree d c.args.context) c.in-Binary.ensures) c.fitted-in-Binary.ensures
