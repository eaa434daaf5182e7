use Rattle.std.proofs.lemmas.Option.{slice_get-get_or, slice_get_read, slice_get_within}
use Rattle.std.proofs.Common.{rules, arith, Some, slice_get, slice_index_or, ◌≡◌, ◌+◌, ◌++◌, [], ◌∷◌, drop, Err, refl, sym, ap, ◌∙◌, subst}
use Rattle.std.proofs.lemmas.List.{drop_all}
use Rattle.std.proofs.lemmas.Result.{err_from_is_err_and}
use Rattle.nt_diag.specs.declared.rule.Rule.TheVariants as rule
use Rattle.nt_ast.specs.declared.expr.Expr.TheViews.{out-Expr}
use Rattle.nt_const.specs.Tells.{refusal}
use Rattle.nt_const.proofs.Steps.{seen_literal, seen_member, seen_item, seen_part, seen_indexed, seen_unary, seen_binary, seen_choose, seen_concat, seen_repeat, seen_pattern, seen_size, seen_sign}
use Rattle.nt_things.specs.Usable.{AllUsable}
use Rattle.nt_typing.specs.Faults.{pattern as lone_pattern}
use Rattle.nt_typing.specs.Places.{Refuses}
use Rattle.nt_typing.specs.Tables.{given}
use Rattle.nt_patterns.proofs.Kept.{opened}
use Rattle.nt_typing.proofs.Least.{refuse_wrong}
use Rattle.nt_forms.specs.Walks.{AllSent, Bases, CountsTo, Leafs, MeasuresTo, Selves, Severals}
use Rattle.nt_bind.proofs.Walking.{moved, at_node, bases_usable, drafts_usable, callee_usable, given_at, given_past_args, given_past_kinds, past_index, at_plus, sending_end, no_pattern, pattern_unplanned, pattern_planned, plan_past}
use Rattle.nt_bind.proofs.Rising.{adding_err, adding_more, adding_done, sending_err, sending_more}
use Rattle.nt_bind.proofs.Picking.{Picking, picking_end, turn_at, turn_picks, never_none}
use Rattle.nt_bind.proofs.walk.+walk.Goals.{picked-in-Some+in-Some-get+in_ok-all, picked-in-Some+in_default-get, picked-in_default}
use Rattle.nt_bind.proofs.walk.+walk.Goals as goal

pub draft-returns-in-Literal : goal.draft-returns-in-Literal
draft-returns-in-Literal t c =
    let s = c.args.scope.now in
    at_node s _ _ c.literal_arm.result (seen_literal _ _ _ c.in-Literal.is) (c.literal_arm.ensures s c.in-Literal.at)

pub draft-returns-in-Member : goal.draft-returns-in-Member
draft-returns-in-Member t c =
    let s = c.args.scope.now in
    at_node s _ _ c.member_arm.result (seen_member _ _ _ _ _ c.in-Member.is) (c.member_arm.ensures s c.in-Member.of (moved (λ n. Bases s n c.base-of.result) _ _ c.get.ensures c.base-of.ensures))

pub draft-returns-in-Item : goal.draft-returns-in-Item
draft-returns-in-Item t c =
    let s = c.args.scope.now in
    at_node s _ _ c.item_arm.result (seen_item _ _ _ _ c.in-Item.is) (c.item_arm.ensures s c.in-Item.of c.in-Item.index (moved (λ n. Bases s n c.base-of-in-Item.result) _ _ c.get-in-Item.ensures c.base-of-in-Item.ensures) (moved (λ n. Selves s n c.own-index.result) _ _ c.get-in-Item-2.ensures c.own-index.ensures))

pub draft-returns-in-Part : goal.draft-returns-in-Part
draft-returns-in-Part t c =
    let s = c.args.scope.now in
    at_node s _ _ c.part_arm.result (seen_part _ _ _ _ _ c.in-Part.is) (c.part_arm.ensures s c.in-Part.of c.in-Part.left c.in-Part.right (moved (λ n. Bases s n c.base-of-in-Part.result) _ _ c.get-in-Part.ensures c.base-of-in-Part.ensures) (moved (λ n. CountsTo s n c.counted-left.result) _ _ c.get-in-Part-2.ensures c.counted-left.ensures) (moved (λ n. CountsTo s n c.counted-right.result) _ _ c.get-in-Part-3.ensures c.counted-right.ensures))

pub draft-returns-in-Indexed : goal.draft-returns-in-Indexed
draft-returns-in-Indexed t c =
    let s = c.args.scope.now in
    at_node s _ _ c.indexed_arm.result (seen_indexed _ _ _ _ _ _ c.in-Indexed.is) (c.indexed_arm.ensures s c.in-Indexed.of c.in-Indexed.from c.in-Indexed.width (moved (λ n. Bases s n c.base-of-in-Indexed.result) _ _ c.get-in-Indexed.ensures c.base-of-in-Indexed.ensures) (moved (λ n. Selves s n c.own-from.result) _ _ c.get-in-Indexed-2.ensures c.own-from.ensures) (moved (λ n. MeasuresTo s n c.measured-width.result) _ _ c.get-in-Indexed-3.ensures c.measured-width.ensures))

pub draft-returns-in-Unary : goal.draft-returns-in-Unary
draft-returns-in-Unary t c =
    let s = c.args.scope.now in
    at_node s _ _ c.unary_arm.result (seen_unary _ _ _ _ c.in-Unary.is) (c.unary_arm.ensures s c.in-Unary.at c.in-Unary.of (moved (λ n. Leafs s n c.integral-of.result) _ _ c.get-in-Unary.ensures c.integral-of.ensures))

pub draft-returns-in-Binary : goal.draft-returns-in-Binary
draft-returns-in-Binary t c =
    let s = c.args.scope.now in
    at_node s _ _ c.binary_arm.result (seen_binary _ _ _ _ _ c.in-Binary.is) (c.binary_arm.ensures s c.in-Binary.at c.in-Binary.left c.in-Binary.right (moved (λ n. Leafs s n c.integral-left.result) _ _ c.get-in-Binary.ensures c.integral-left.ensures) (moved (λ n. Leafs s n c.integral-right.result) _ _ c.get-in-Binary-2.ensures c.integral-right.ensures))

pub draft-returns-in-Choose : goal.draft-returns-in-Choose
draft-returns-in-Choose t c =
    let s = c.args.scope.now in
    at_node s _ _ c.choose_arm.result (seen_choose _ _ _ _ _ c.in-Choose.is) (c.choose_arm.ensures s c.in-Choose.at c.in-Choose.test c.in-Choose.yes c.in-Choose.no (moved (λ n. Selves s n c.own-test.result) _ _ c.get-in-Choose.ensures c.own-test.ensures) (moved (λ n. Leafs s n c.integral-yes.result) _ _ c.get-in-Choose-2.ensures c.integral-yes.ensures) (moved (λ n. Leafs s n c.integral-no.result) _ _ c.get-in-Choose-3.ensures c.integral-no.ensures))

pub draft-returns-in-Concat : goal.draft-returns-in-Concat
draft-returns-in-Concat t c =
    let s = c.args.scope.now in
    at_node s _ _ c.concat_arm.result (seen_concat _ _ _ c.in-Concat.is) (c.concat_arm.ensures s c.in-Concat.parts (subst (λ xs. Severals s xs c.several-parts.result) c.as_slice.ensures c.several-parts.ensures))

pub draft-returns-in-Repeat : goal.draft-returns-in-Repeat
draft-returns-in-Repeat t c =
    let s = c.args.scope.now in
    at_node s _ _ c.repeat_arm.result (seen_repeat _ _ _ _ c.in-Repeat.is) (c.repeat_arm.ensures s c.in-Repeat.count c.in-Repeat.parts (moved (λ n. CountsTo s n c.counted-count.result) _ _ c.get-in-Repeat.ensures c.counted-count.ensures) (subst (λ xs. Severals s xs c.several-parts-in-Repeat.result) c.as_slice-in-Repeat.ensures c.several-parts-in-Repeat.ensures))

pub draft-returns-in-Size : goal.draft-returns-in-Size
draft-returns-in-Size t c =
    let s = c.args.scope.now in
    at_node s _ _ c.size_arm.result (seen_size _ _ _ c.in-Size.is) (c.size_arm.ensures s c.in-Size.of (moved (λ n. Bases s n c.base-of-in-Size.result) _ _ c.get-in-Size.ensures c.base-of-in-Size.ensures))

pub draft-returns-in-Sign : goal.draft-returns-in-Sign
draft-returns-in-Sign t c =
    let s = c.args.scope.now in
    at_node s _ _ c.sign_arm.result (seen_sign _ _ _ _ c.in-Sign.is) (c.sign_arm.ensures s c.in-Sign.at c.in-Sign.of (moved (λ n. Selves s n c.own-of.result) _ _ c.get-in-Sign.ensures c.own-of.ensures))

pub draft-returns-in-Pattern : goal.draft-returns-in-Pattern
draft-returns-in-Pattern t c =
    let s = c.args.scope.now in
    rw c.refused.ensures (subst (λ n. Refuses s n (refusal rule.T8 c.in-Pattern.at)) (sym (seen_pattern _ _ _ c.in-Pattern.is)) (refuse_wrong _ rule.T8 c.in-Pattern.at (lone_pattern c.in-Pattern.at c.in-Pattern.items)))

pub draft-member_arm-requires : goal.draft-member_arm-requires
draft-member_arm-requires t c = bases_usable c.args.scope.now _ c.base-of.result c.requires c.base-of.ensures

pub draft-item_arm-requires : goal.draft-item_arm-requires
draft-item_arm-requires t c = bases_usable c.args.scope.now _ c.base-of-in-Item.result c.requires c.base-of-in-Item.ensures

pub base-returns : goal.base-returns
base-returns t c = c.based.ensures c.args.scope.now (out-Expr c.args.expr.now) c.at.ensures c.draft.ensures

pub integral-returns : goal.integral-returns
integral-returns t c = c.leafed.ensures c.args.scope.now (out-Expr c.args.expr.now) c.at.ensures c.draft.ensures

pub own-returns : goal.own-returns
own-returns t c = c.selfed.ensures c.args.scope.now (out-Expr c.args.expr.now) c.integral.ensures

pub called-all_sent-args-requires : goal.called-all_sent-args-requires
called-all_sent-args-requires t c =
    let u = callee_usable c.args.scope.now c.args.path.now _ _ c.requires c.in_ok-function.ensures in
    (search rules, (c.requires, subst AllUsable (sym c.as_slice.ensures) u.args))

pub called-call_arm-requires : goal.called-call_arm-requires
called-call_arm-requires t c = callee_usable c.args.scope.now c.args.path.now _ _ c.requires c.in_ok-function.ensures

pub pattern-returns-in-None : goal.pattern-returns-in-None
pattern-returns-in-None t c =
    pattern_unplanned c.args.scope.now c.args.kind.now c.args.at c.args.items.now (λ v. v.items) c.refused.result c.refused.ensures c.in_ok-picks.ensures c.in-None.is

pub pattern-returns-in-Some : goal.pattern-returns-in-Some
pattern-returns-in-Some t c =
    let p = pattern_planned c.args.kind.now c.args.items.now (λ v. v.items) c.in_ok-picks.ensures c.in-Some.is in
    c.pattern_arm.ensures c.args.scope.now c.args.kind.now c.args.at c.args.items.now p.plan p.is (c.picked-trees.ensures p.plan p.is)

pub sent_to-plain_sent-requires : goal.sent_to-plain_sent-requires
sent_to-plain_sent-requires t c = record { draft = drafts_usable c.args.scope.now _ c.draft.result c.requires.scope c.draft.ensures; kind = c.requires.kind }

pub sent_to-returns-in_default : goal.sent_to-returns-in_default
sent_to-returns-in_default t c = c.plain_sent.ensures c.args.scope.now (out-Expr c.args.expr.now) (no_pattern c.args.expr.now c.in_default.not-Pattern) c.at.ensures c.draft.ensures

pub several-returns-in_err-one : goal.several-returns-in_err-one
several-returns-in_err-one t c =
    let s = c.args.scope.now in
    let p = err_from_is_err_and c.from_residual.result c.from_residual.ensures.1 in
    subst (λ r. Severals s c.args.parts.now r) (sym (p.1 ∙ ap (λ f. Err f) p.2))
    (adding_err s c.args.parts.now c.loop-part.part-index c.loop-part.all c.part-item.result c.in_err-one.field-0.0
    (opened c.args.parts.now c.loop-part.part-index _ c.loop-part-test.true c.part-item.is) c.in_err-one.ensures c.loop-part.invariant)

pub several-loop-part-preserved : goal.several-loop-part-preserved
several-loop-part-preserved t c =
    adding_more c.args.scope.now c.args.parts.now c.loop-part.part-index c.loop-part.all c.in_ok-all.all c.part-item.result c.in_ok-one.one.size c.in_ok-one.one.tree
    (opened c.args.parts.now c.loop-part.part-index _ c.loop-part-test.true c.part-item.is) c.in_ok-one.ensures c.in_ok-all.ensures c.loop-part.invariant

pub several-returns : goal.several-returns
several-returns t c = adding_done c.args.scope.now c.args.parts.now c.loop-part.part-index c.loop-part.all c.loop-part-test.false c.loop-part.invariant

pub all_sent-returns-in-None : goal.all_sent-returns-in-None
all_sent-returns-in-None t c =
    let i = c.loop-arg.arg-index in
    let e = subst (λ i. drop i c.args.kinds.now ≡ []) c.loop-arg.invariant.same (past_index c.args.kinds.now c.loop-arg.index (sym c.in-None.ensures.is)) in
    sending_end c.args.scope.now (given c.args.args.now c.args.kinds.now) i c.loop-arg.trees (given_past_kinds i c.args.args.now c.args.kinds.now e) c.loop-arg.invariant.so_far

pub all_sent-returns-in_err-tree-in-Some : goal.all_sent-returns-in_err-tree-in-Some
all_sent-returns-in_err-tree-in-Some t c =
    let s = c.args.scope.now in
    let p = err_from_is_err_and c.from_residual.result c.from_residual.ensures.1 in
    let plan = given c.args.args.now c.args.kinds.now in
    let k = c.in-Some.kind.now in
    let i = c.loop-arg.arg-index in
    let e = given_at i c.args.args.now c.args.kinds.now c.arg-item.result k
    (opened c.args.args.now i _ c.loop-arg-test.true c.arg-item.is)
    (subst (λ i. drop i c.args.kinds.now ≡ k ∷ drop (i + 1) c.args.kinds.now) c.loop-arg.invariant.same (at_plus c.args.kinds.now c.loop-arg.index k (sym c.in-Some.ensures.is))) in
    subst (λ r. AllSent s plan r) (sym (p.1 ∙ ap (λ f. Err f) p.2))
    (sending_err s plan i c.loop-arg.trees c.arg-item.result k c.in_err-tree-in-Some.field-0.0 e c.in_err-tree-in-Some.ensures c.loop-arg.invariant.so_far)

pub all_sent-loop-arg-preserved : goal.all_sent-loop-arg-preserved
all_sent-loop-arg-preserved t c =
    let plan = given c.args.args.now c.args.kinds.now in
    let k = c.in-Some.kind.now in
    let i = c.loop-arg.arg-index in
    let e = given_at i c.args.args.now c.args.kinds.now c.arg-item.result k
    (opened c.args.args.now i _ c.loop-arg-test.true c.arg-item.is)
    (subst (λ i. drop i c.args.kinds.now ≡ k ∷ drop (i + 1) c.args.kinds.now) c.loop-arg.invariant.same (at_plus c.args.kinds.now c.loop-arg.index k (sym c.in-Some.ensures.is))) in
    record {
      same = ap (λ n. n + 1) c.loop-arg.invariant.same;
      so_far = sending_more c.args.scope.now plan i c.loop-arg.trees _ c.arg-item.result k c.in_ok-tree-in-Some.tree e c.in_ok-tree-in-Some.ensures
          (c.in_ok-push-in-Some.ensures.ok ∙ ap (λ a. c.loop-arg.trees ++ a ∷ []) c.into_inner.ensures) c.loop-arg.invariant.so_far;
    }

pub all_sent-returns : goal.all_sent-returns
all_sent-returns t c =
    let i = c.loop-arg.arg-index in
    sending_end c.args.scope.now (given c.args.args.now c.args.kinds.now) i c.loop-arg.trees (given_past_args i c.args.args.now c.args.kinds.now (drop_all i c.args.args.now c.loop-arg-test.false)) c.loop-arg.invariant.so_far

pub picked-returns : goal.picked-returns
picked-returns t c = λ plan e.
    let i = c.loop-number.number-index in
    picking_end c.args.scope.now plan i c.loop-number.all c.finished.result c.finished.ensures
    (plan_past c.args.kind.now c.args.items.now c.args.numbers.now plan i c.requires.picks e c.loop-number-test.false) (c.loop-number.invariant.so_far plan e)

pub picked-loop-number-preserved : goal.picked-loop-number-preserved
picked-loop-number-preserved t c =
    let s = c.args.scope.now in
    let i = c.loop-number.number-index in
    let n = slice_index_or c.args.numbers.now i 0 in
    let at = slice_get-get_or c.args.numbers.now i 0 c.loop-number-test.true in
    record {
      same = ap (λ n. n + 1) c.loop-number.invariant.same;
      so_far = λ plan e.
          let turn = turn_at s c.args.kind.now c.args.items.now c.args.numbers.now plan i n c.requires.picks e at in
          let slot = subst (λ j. slice_get turn.slots j ≡ Some turn.at.slot) (sym c.loop-number.invariant.same) turn.at.slot_is in
          let own = c.slot_kind.ensures.is turn.slots turn.at.slot turn.is_slots slot in
          elim c.match-slot_kind.branch [
            | picked-in-Some+in-Some-get+in_ok-all w ↦
                let pair = w.in-Some-get.field-0.now in
                let got = slice_get_read c.args.items.now _ n pair refl w.in-Some-get.ensures.lookup.3.0 w.in-Some-get.ensures.lookup.1 in
                subst (Picking s plan (i + 1)) (sym w.all-is)
                (turn_picks s c.args.kind.now w.in-Some.own.now c.args.items.now plan i n pair c.loop-number.all w.in_ok-all.all w.sent_to-tree.result turn got
                (w.in-Some.ensures.is turn.slots turn.at.slot turn.is_slots slot) w.sent_to-tree.ensures w.in_ok-all.ensures (c.loop-number.invariant.so_far plan e))
            | picked-in-Some+in_default-get w ↦
                let lt = slice_get_within c.args.items.now n turn.at.item turn.at.item_is in
                let ge = w.in_default-get.ensures.lookup.3 in absurd (omega (arith, lt, ge))
            | picked-in_default w ↦ absurd (never_none (λ k. k.now) c.slot_kind.result turn.at.slot.1 own w.in_default.not-Some)
          ];
    }
