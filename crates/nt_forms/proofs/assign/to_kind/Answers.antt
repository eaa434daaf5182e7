use Rattle.std.proofs.Common.{sym, ap, refl, subst}
use Rattle.nt_kinds.specs.Kinds.{Equivalent}
use Rattle.nt_kinds.specs.declared.kind.Kind.TheViews.{out-Kind}
use Rattle.nt_drafts.specs.Drafts.{draft_leaf}
use Rattle.nt_forms.proofs.Seen.{seen_closed, seen_whole, seen_many, seen_literal, seen_unary, seen_binary, seen_choose}
use Rattle.nt_forms.proofs.Asking.{drawn}
use Rattle.nt_forms.proofs.Assigning.{sends_at, whole_goes, whole_unlike, no_leaf_many, no_leaf_drawn}
use Rattle.nt_forms.proofs.assign.to_kind.Goals as goal

pub returns-then-equivalent : goal.returns-then-equivalent
returns-then-equivalent c = λ s x w p e h.
    whole_goes w (drawn c.args.draft _ (seen_whole c.args.draft c.in-Whole.own c.in-Whole.tree (sym c.in-Whole.ensures)) h)
    (subst (λ j. Equivalent (out-Kind j) (out-Kind c.args.kind.now)) c.get.ensures (c.if-equivalent.ensures.0 refl))

pub returns-in-Whole : goal.returns-in-Whole
returns-in-Whole c = λ s x w p e h.
    sends_at s x c.args.kind.now c.args.at c.refused.result c.refused.ensures e
    (whole_unlike c.args.kind.now w (drawn c.args.draft _ (seen_whole c.args.draft c.in-Whole.own c.in-Whole.tree (sym c.in-Whole.ensures)) h)
    (λ q. absurd (let g : _ = c.if-equivalent.ensures.1 (subst (λ j. Equivalent (out-Kind j) (out-Kind c.args.kind.now)) (sym c.get.ensures) q) in cc)))

pub returns-in-Many : goal.returns-in-Many
returns-in-Many c = λ s x w p e h.
    sends_at s x c.args.kind.now c.args.at c.refused-in-Many.result c.refused-in-Many.ensures e
    (no_leaf_many c.args.kind.now w (drawn c.args.draft _ (seen_many c.args.draft c.in-Many.element (sym c.in-Many.ensures)) h))

pub returns-in-Closed : goal.returns-in-Closed
returns-in-Closed c = λ s x w p e h.
    sends_at s x c.args.kind.now c.args.at c.refused-in-Closed.result c.refused-in-Closed.ensures e
    (no_leaf_drawn c.args.kind.now c.args.draft w h (ap draft_leaf (seen_closed c.args.draft c.in-Closed.size c.in-Closed.kind c.in-Closed.tree (sym c.in-Closed.ensures))))

pub returns-in-Literal : goal.returns-in-Literal
returns-in-Literal c = λ s x w p e h.
    sends_at s x c.args.kind.now c.args.at c.refused-in-Literal.result c.refused-in-Literal.ensures e
    (no_leaf_drawn c.args.kind.now c.args.draft w h (ap draft_leaf (seen_literal c.args.draft c.in-Literal.size c.in-Literal.value (sym c.in-Literal.ensures))))

pub returns-in-Unary : goal.returns-in-Unary
returns-in-Unary c = λ s x w p e h.
    sends_at s x c.args.kind.now c.args.at c.refused-in-Unary.result c.refused-in-Unary.ensures e
    (no_leaf_drawn c.args.kind.now c.args.draft w h (ap draft_leaf (seen_unary c.args.draft c.in-Unary.size c.in-Unary.op c.in-Unary.inner c.in-Unary.of (sym c.in-Unary.ensures))))

pub returns-in-Binary : goal.returns-in-Binary
returns-in-Binary c = λ s x w p e h.
    sends_at s x c.args.kind.now c.args.at c.refused-in-Binary.result c.refused-in-Binary.ensures e
    (no_leaf_drawn c.args.kind.now c.args.draft w h (ap draft_leaf (seen_binary c.args.draft c.in-Binary.size c.in-Binary.op c.in-Binary.first c.in-Binary.left c.in-Binary.second c.in-Binary.right (sym c.in-Binary.ensures))))

pub returns : goal.returns
returns c = λ s x w p e h.
    sends_at s x c.args.kind.now c.args.at c.refused-in-Choose.result c.refused-in-Choose.ensures e
    (no_leaf_drawn c.args.kind.now c.args.draft w h (ap draft_leaf (seen_choose c.args.draft c.in-Choose.size c.in-Choose.test c.in-Choose.yes c.in-Choose.no (sym c.in-Choose.ensures))))
