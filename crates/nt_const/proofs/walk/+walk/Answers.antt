use Rattle.std.proofs.Common.{◌≡◌, true, false, ap, ◌∙◌, sym, Err, arith, refl, subst}
use Rattle.std.proofs.lemmas.Result.{err_from_is_err_and}
use Rattle.nt_ast.specs.declared.expr.Expr.TheViews.{out-Expr}
use Rattle.nt_const.specs.Rules.{Own, known, count, not_constant, member, pattern, call, size, time}
use Rattle.nt_const.specs.Walks.{CountsTo, MeasuresTo, Severals, unfit}
use Rattle.nt_const.proofs.Faults.{refuse_in, refuse_there, refuse_wrong}
use Rattle.nt_const.proofs.Steps.{seen_literal, seen_member, seen_item, seen_part, seen_indexed, seen_unary, seen_binary, seen_choose, seen_concat, seen_repeat, seen_pattern, seen_call, seen_size, seen_time, seen_sign}
use Rattle.nt_const.proofs.Drafting.{drafted_at, drafted_of, drafts_at, drafts_err, refuses_at, counted_of, measured_of, summed_of, lift_here, lift_need, lift_all, drafts_one, own_of, drafted_literal, drafted_item, drafted_sign, drafted_unary, drafted_binary, drafted_choose, drafts_part, drafts_indexed, drafts_concat, drafts_repeat, opened, adding_more, adding_done, adding_err, misses_err, fit_of, fit_counted}
use Rattle.nt_const.proofs.walk.+walk.Goals as goal

pub counted-returns-in_err-a : goal.counted-returns-in_err-a
counted-returns-in_err-a g t c =
    let k = g.L.Lookup.sees c.args.known.now in
    let p = err_from_is_err_and c.from_residual.result c.from_residual.ensures.1 in
    subst (λ r. CountsTo k (out-Expr c.args.expr.now) r) (sym (p.1 ∙ ap (λ f. Err f) p.2)) (misses_err count k _ c.in_err-a.field-0.0 c.in_err-a.ensures)

pub counted-returns-then-counts : goal.counted-returns-then-counts
counted-returns-then-counts g t c =
    let k = g.L.Lookup.sees c.args.known.now in
    record {
      value = c.own-value.result;
      own = subst (λ v. Own k (out-Expr c.args.expr.now) v) (sym c.own-value.ensures) (own_of k _ c.in_ok-a.a c.in_ok-a.ensures);
      counts = c.if-counts.ensures.0 refl;
      is = c.magnitude.ensures.value;
    }

pub counted-returns : goal.counted-returns
counted-returns g t c =
    let k = g.L.Lookup.sees c.args.known.now in
    rw (c.refused.ensures, c.at.ensures)
    (unfit {n = count} (subst (λ v. Own k (out-Expr c.args.expr.now) v) (sym c.own-value.ensures) (own_of k _ c.in_ok-a.a c.in_ok-a.ensures)) (λ g. absurd (let e : _ = c.if-counts.ensures.1 g in cc)))

pub measured-returns-in_err-a : goal.measured-returns-in_err-a
measured-returns-in_err-a g t c =
    let k = g.L.Lookup.sees c.args.known.now in
    let p = err_from_is_err_and c.from_residual.result c.from_residual.ensures.1 in
    subst (λ r. MeasuresTo k (out-Expr c.args.expr.now) r) (sym (p.1 ∙ ap (λ f. Err f) p.2)) (misses_err known k _ c.in_err-a.field-0.0 c.in_err-a.ensures)

pub measured-returns-then-is_known : goal.measured-returns-then-is_known
measured-returns-then-is_known g t c =
    let k = g.L.Lookup.sees c.args.known.now in
    record {
      value = c.own-value.result;
      own = subst (λ v. Own k (out-Expr c.args.expr.now) v) (sym c.own-value.ensures) (own_of k _ c.in_ok-a.a c.in_ok-a.ensures);
      is_known = sym c.if-is_known.ensures.value;
      is = c.width_of.ensures;
    }

pub measured-returns : goal.measured-returns
measured-returns g t c =
    let k = g.L.Lookup.sees c.args.known.now in
    rw (c.refused.ensures, c.at.ensures)
    (unfit {n = known} (subst (λ v. Own k (out-Expr c.args.expr.now) v) (sym c.own-value.ensures) (own_of k _ c.in_ok-a.a c.in_ok-a.ensures)) (λ g. absurd (let e : false ≡ true = c.if-is_known.ensures.value ∙ g in cc)))

pub draft-returns-in_err-a-in-Item : goal.draft-returns-in_err-a-in-Item
draft-returns-in_err-a-in-Item g t c =
    let k = g.L.Lookup.sees c.args.known.now in
    let p = err_from_is_err_and c.from_residual.result c.from_residual.ensures.1 in
    drafts_err k _ _ _ c.in_err-a-in-Item.field-0.0 (p.1 ∙ ap (λ f. Err f) p.2) (seen_item _ _ _ _ c.in-Item.is)
    (lift_here k _ _ _ _ _ c.in_err-a-in-Item.field-0.0 c.get.ensures (λ r h. refuse_in _ r h) c.in_err-a-in-Item.ensures)

pub draft-returns-in_err-b-in-Item : goal.draft-returns-in_err-b-in-Item
draft-returns-in_err-b-in-Item g t c =
    let k = g.L.Lookup.sees c.args.known.now in
    let p = err_from_is_err_and c.from_residual-in_err-b-in-Item.result c.from_residual-in_err-b-in-Item.ensures.1 in
    drafts_err k _ _ _ c.in_err-b-in-Item.field-0.0 (p.1 ∙ ap (λ f. Err f) p.2) (seen_item _ _ _ _ c.in-Item.is)
    (lift_here k _ _ _ _ _ c.in_err-b-in-Item.field-0.0 c.get-in-Item.ensures (λ r h. refuse_in _ r (refuse_there _ _ _ r (fit_of k _ _ _ c.get.ensures c.in_ok-a-in-Item.ensures) h)) c.in_err-b-in-Item.ensures)

pub draft-returns-in_err-a-in-Part : goal.draft-returns-in_err-a-in-Part
draft-returns-in_err-a-in-Part g t c =
    let k = g.L.Lookup.sees c.args.known.now in
    let p = err_from_is_err_and c.from_residual-in_err-a-in-Part.result c.from_residual-in_err-a-in-Part.ensures.1 in
    drafts_err k _ _ _ c.in_err-a-in-Part.field-0.0 (p.1 ∙ ap (λ f. Err f) p.2) (seen_part _ _ _ _ _ c.in-Part.is)
    (lift_here k _ _ _ _ _ c.in_err-a-in-Part.field-0.0 c.get-in-Part.ensures (λ r h. refuse_in _ r h) c.in_err-a-in-Part.ensures)

pub draft-returns-in_err-n-in-Part : goal.draft-returns-in_err-n-in-Part
draft-returns-in_err-n-in-Part g t c =
    let k = g.L.Lookup.sees c.args.known.now in
    let p = err_from_is_err_and c.from_residual-in_err-n-in-Part.result c.from_residual-in_err-n-in-Part.ensures.1 in
    drafts_err k _ _ _ c.in_err-n-in-Part.field-0.0 (p.1 ∙ ap (λ f. Err f) p.2) (seen_part _ _ _ _ _ c.in-Part.is)
    (lift_need count k _ _ _ _ _ c.in_err-n-in-Part.field-0.0 c.get-in-Part-2.ensures (λ r h. refuse_in _ r (refuse_there _ _ _ r (fit_of k _ _ _ c.get-in-Part.ensures c.in_ok-a-in-Part.ensures) h)) c.in_err-n-in-Part.ensures)

pub draft-returns-in_err-m-in-Part : goal.draft-returns-in_err-m-in-Part
draft-returns-in_err-m-in-Part g t c =
    let k = g.L.Lookup.sees c.args.known.now in
    let p = err_from_is_err_and c.from_residual-in_err-m-in-Part.result c.from_residual-in_err-m-in-Part.ensures.1 in
    drafts_err k _ _ _ c.in_err-m-in-Part.field-0.0 (p.1 ∙ ap (λ f. Err f) p.2) (seen_part _ _ _ _ _ c.in-Part.is)
    (lift_need count k _ _ _ _ _ c.in_err-m-in-Part.field-0.0 c.get-in-Part-3.ensures (λ r h. refuse_in _ r (refuse_there _ _ _ r (fit_of k _ _ _ c.get-in-Part.ensures c.in_ok-a-in-Part.ensures) (refuse_there _ _ _ r (fit_counted k _ _ _ c.get-in-Part-2.ensures c.in_ok-n-in-Part.ensures) h))) c.in_err-m-in-Part.ensures)

pub draft-returns-in_err-a-in-Indexed : goal.draft-returns-in_err-a-in-Indexed
draft-returns-in_err-a-in-Indexed g t c =
    let k = g.L.Lookup.sees c.args.known.now in
    let p = err_from_is_err_and c.from_residual-in_err-a-in-Indexed.result c.from_residual-in_err-a-in-Indexed.ensures.1 in
    drafts_err k _ _ _ c.in_err-a-in-Indexed.field-0.0 (p.1 ∙ ap (λ f. Err f) p.2) (seen_indexed _ _ _ _ _ _ c.in-Indexed.is)
    (lift_here k _ _ _ _ _ c.in_err-a-in-Indexed.field-0.0 c.get-in-Indexed.ensures (λ r h. refuse_in _ r h) c.in_err-a-in-Indexed.ensures)

pub draft-returns-in_err-b-in-Indexed : goal.draft-returns-in_err-b-in-Indexed
draft-returns-in_err-b-in-Indexed g t c =
    let k = g.L.Lookup.sees c.args.known.now in
    let p = err_from_is_err_and c.from_residual-in_err-b-in-Indexed.result c.from_residual-in_err-b-in-Indexed.ensures.1 in
    drafts_err k _ _ _ c.in_err-b-in-Indexed.field-0.0 (p.1 ∙ ap (λ f. Err f) p.2) (seen_indexed _ _ _ _ _ _ c.in-Indexed.is)
    (lift_here k _ _ _ _ _ c.in_err-b-in-Indexed.field-0.0 c.get-in-Indexed-2.ensures (λ r h. refuse_in _ r (refuse_there _ _ _ r (fit_of k _ _ _ c.get-in-Indexed.ensures c.in_ok-a-in-Indexed.ensures) h)) c.in_err-b-in-Indexed.ensures)

pub draft-returns-in_err-n-in-Indexed : goal.draft-returns-in_err-n-in-Indexed
draft-returns-in_err-n-in-Indexed g t c =
    let k = g.L.Lookup.sees c.args.known.now in
    let p = err_from_is_err_and c.from_residual-in_err-n-in-Indexed.result c.from_residual-in_err-n-in-Indexed.ensures.1 in
    drafts_err k _ _ _ c.in_err-n-in-Indexed.field-0.0 (p.1 ∙ ap (λ f. Err f) p.2) (seen_indexed _ _ _ _ _ _ c.in-Indexed.is)
    (lift_need known k _ _ _ _ _ c.in_err-n-in-Indexed.field-0.0 c.get-in-Indexed-3.ensures (λ r h. refuse_in _ r (refuse_there _ _ _ r (fit_of k _ _ _ c.get-in-Indexed.ensures c.in_ok-a-in-Indexed.ensures) (refuse_there _ _ _ r (fit_of k _ _ _ c.get-in-Indexed-2.ensures c.in_ok-b-in-Indexed.ensures) h))) c.in_err-n-in-Indexed.ensures)

pub draft-returns-in_err-a-in-Unary : goal.draft-returns-in_err-a-in-Unary
draft-returns-in_err-a-in-Unary g t c =
    let k = g.L.Lookup.sees c.args.known.now in
    let p = err_from_is_err_and c.from_residual-in_err-a-in-Unary.result c.from_residual-in_err-a-in-Unary.ensures.1 in
    drafts_err k _ _ _ c.in_err-a-in-Unary.field-0.0 (p.1 ∙ ap (λ f. Err f) p.2) (seen_unary _ _ _ _ c.in-Unary.is)
    (lift_here k _ _ _ _ _ c.in_err-a-in-Unary.field-0.0 c.get-in-Unary.ensures (λ r h. refuse_in _ r h) c.in_err-a-in-Unary.ensures)

pub draft-returns-in_err-a-in-Binary : goal.draft-returns-in_err-a-in-Binary
draft-returns-in_err-a-in-Binary g t c =
    let k = g.L.Lookup.sees c.args.known.now in
    let p = err_from_is_err_and c.from_residual-in_err-a-in-Binary.result c.from_residual-in_err-a-in-Binary.ensures.1 in
    drafts_err k _ _ _ c.in_err-a-in-Binary.field-0.0 (p.1 ∙ ap (λ f. Err f) p.2) (seen_binary _ _ _ _ _ c.in-Binary.is)
    (lift_here k _ _ _ _ _ c.in_err-a-in-Binary.field-0.0 c.get-in-Binary.ensures (λ r h. refuse_in _ r h) c.in_err-a-in-Binary.ensures)

pub draft-returns-in_err-b-in-Binary : goal.draft-returns-in_err-b-in-Binary
draft-returns-in_err-b-in-Binary g t c =
    let k = g.L.Lookup.sees c.args.known.now in
    let p = err_from_is_err_and c.from_residual-in_err-b-in-Binary.result c.from_residual-in_err-b-in-Binary.ensures.1 in
    drafts_err k _ _ _ c.in_err-b-in-Binary.field-0.0 (p.1 ∙ ap (λ f. Err f) p.2) (seen_binary _ _ _ _ _ c.in-Binary.is)
    (lift_here k _ _ _ _ _ c.in_err-b-in-Binary.field-0.0 c.get-in-Binary-2.ensures (λ r h. refuse_in _ r (refuse_there _ _ _ r (fit_of k _ _ _ c.get-in-Binary.ensures c.in_ok-a-in-Binary.ensures) h)) c.in_err-b-in-Binary.ensures)

pub draft-returns-in_err-q-in-Choose : goal.draft-returns-in_err-q-in-Choose
draft-returns-in_err-q-in-Choose g t c =
    let k = g.L.Lookup.sees c.args.known.now in
    let p = err_from_is_err_and c.from_residual-in_err-q-in-Choose.result c.from_residual-in_err-q-in-Choose.ensures.1 in
    drafts_err k _ _ _ c.in_err-q-in-Choose.field-0.0 (p.1 ∙ ap (λ f. Err f) p.2) (seen_choose _ _ _ _ _ c.in-Choose.is)
    (lift_here k _ _ _ _ _ c.in_err-q-in-Choose.field-0.0 c.get-in-Choose.ensures (λ r h. refuse_in _ r h) c.in_err-q-in-Choose.ensures)

pub draft-returns-in_err-a-in-Choose : goal.draft-returns-in_err-a-in-Choose
draft-returns-in_err-a-in-Choose g t c =
    let k = g.L.Lookup.sees c.args.known.now in
    let p = err_from_is_err_and c.from_residual-in_err-a-in-Choose.result c.from_residual-in_err-a-in-Choose.ensures.1 in
    drafts_err k _ _ _ c.in_err-a-in-Choose.field-0.0 (p.1 ∙ ap (λ f. Err f) p.2) (seen_choose _ _ _ _ _ c.in-Choose.is)
    (lift_here k _ _ _ _ _ c.in_err-a-in-Choose.field-0.0 c.get-in-Choose-2.ensures (λ r h. refuse_in _ r (refuse_there _ _ _ r (fit_of k _ _ _ c.get-in-Choose.ensures c.in_ok-q-in-Choose.ensures) h)) c.in_err-a-in-Choose.ensures)

pub draft-returns-in_err-b-in-Choose : goal.draft-returns-in_err-b-in-Choose
draft-returns-in_err-b-in-Choose g t c =
    let k = g.L.Lookup.sees c.args.known.now in
    let p = err_from_is_err_and c.from_residual-in_err-b-in-Choose.result c.from_residual-in_err-b-in-Choose.ensures.1 in
    drafts_err k _ _ _ c.in_err-b-in-Choose.field-0.0 (p.1 ∙ ap (λ f. Err f) p.2) (seen_choose _ _ _ _ _ c.in-Choose.is)
    (lift_here k _ _ _ _ _ c.in_err-b-in-Choose.field-0.0 c.get-in-Choose-3.ensures (λ r h. refuse_in _ r (refuse_there _ _ _ r (fit_of k _ _ _ c.get-in-Choose.ensures c.in_ok-q-in-Choose.ensures) (refuse_there _ _ _ r (fit_of k _ _ _ c.get-in-Choose-2.ensures c.in_ok-a-in-Choose.ensures) h))) c.in_err-b-in-Choose.ensures)

pub draft-returns-in_err-a-in-Sign : goal.draft-returns-in_err-a-in-Sign
draft-returns-in_err-a-in-Sign g t c =
    let k = g.L.Lookup.sees c.args.known.now in
    let p = err_from_is_err_and c.from_residual-in_err-a-in-Sign.result c.from_residual-in_err-a-in-Sign.ensures.1 in
    drafts_err k _ _ _ c.in_err-a-in-Sign.field-0.0 (p.1 ∙ ap (λ f. Err f) p.2) (seen_sign _ _ _ _ c.in-Sign.is)
    (lift_here k _ _ _ _ _ c.in_err-a-in-Sign.field-0.0 c.get-in-Sign.ensures (λ r h. refuse_in _ r h) c.in_err-a-in-Sign.ensures)

pub draft-returns-in_err-all-in-Concat : goal.draft-returns-in_err-all-in-Concat
draft-returns-in_err-all-in-Concat g t c =
    let k = g.L.Lookup.sees c.args.known.now in
    let p = err_from_is_err_and c.from_residual-in_err-all-in-Concat.result c.from_residual-in_err-all-in-Concat.ensures.1 in
    drafts_err k _ _ _ c.in_err-all-in-Concat.field-0.0 (p.1 ∙ ap (λ f. Err f) p.2) (seen_concat _ _ _ c.in-Concat.is)
    (lift_all k _ _ _ c.in_err-all-in-Concat.field-0.0 c.as_slice.ensures (λ r h. refuse_in _ r h) c.in_err-all-in-Concat.ensures)

pub draft-returns-in_err-times-in-Repeat : goal.draft-returns-in_err-times-in-Repeat
draft-returns-in_err-times-in-Repeat g t c =
    let k = g.L.Lookup.sees c.args.known.now in
    let p = err_from_is_err_and c.from_residual-in_err-times-in-Repeat.result c.from_residual-in_err-times-in-Repeat.ensures.1 in
    drafts_err k _ _ _ c.in_err-times-in-Repeat.field-0.0 (p.1 ∙ ap (λ f. Err f) p.2) (seen_repeat _ _ _ _ c.in-Repeat.is)
    (lift_need count k _ _ _ _ _ c.in_err-times-in-Repeat.field-0.0 c.get-in-Repeat.ensures (λ r h. refuse_in _ r h) c.in_err-times-in-Repeat.ensures)

pub draft-returns-in_err-all-in-Repeat : goal.draft-returns-in_err-all-in-Repeat
draft-returns-in_err-all-in-Repeat g t c =
    let k = g.L.Lookup.sees c.args.known.now in
    let p = err_from_is_err_and c.from_residual-in_err-all-in-Repeat.result c.from_residual-in_err-all-in-Repeat.ensures.1 in
    drafts_err k _ _ _ c.in_err-all-in-Repeat.field-0.0 (p.1 ∙ ap (λ f. Err f) p.2) (seen_repeat _ _ _ _ c.in-Repeat.is)
    (lift_all k _ _ _ c.in_err-all-in-Repeat.field-0.0 c.as_slice-in-Repeat.ensures (λ r h. refuse_in _ r (refuse_there _ _ _ r (fit_counted k _ _ _ c.get-in-Repeat.ensures c.in_ok-times-in-Repeat.ensures) h)) c.in_err-all-in-Repeat.ensures)

pub draft-returns-in-Literal : goal.draft-returns-in-Literal
draft-returns-in-Literal g t c =
    let k = g.L.Lookup.sees c.args.known.now in
    rw c.literal_draft.ensures (drafted_at k _ _ _ (seen_literal _ _ _ c.in-Literal.is) (drafted_literal k _ _))

pub draft-returns-in-Member : goal.draft-returns-in-Member
draft-returns-in-Member g t c =
    let k = g.L.Lookup.sees c.args.known.now in
    rw c.refused.ensures (refuses_at k _ _ _ (seen_member _ _ _ _ _ c.in-Member.is) (refuse_wrong _ _ _ (not_constant _ (member _ _ _ _))))

pub draft-returns-in-Pattern : goal.draft-returns-in-Pattern
draft-returns-in-Pattern g t c =
    let k = g.L.Lookup.sees c.args.known.now in
    rw c.refused-in-Pattern.ensures (refuses_at k _ _ _ (seen_pattern _ _ _ c.in-Pattern.is) (refuse_wrong _ _ _ (not_constant _ (pattern _ _))))

pub draft-returns-in-Call : goal.draft-returns-in-Call
draft-returns-in-Call g t c =
    let k = g.L.Lookup.sees c.args.known.now in
    rw c.refused-in-Call.ensures (refuses_at k _ _ _ (seen_call _ _ _ _ c.in-Call.is) (refuse_wrong _ _ _ (not_constant _ (call _ _ _))))

pub draft-returns-in-Size : goal.draft-returns-in-Size
draft-returns-in-Size g t c =
    let k = g.L.Lookup.sees c.args.known.now in
    rw c.refused-in-Size.ensures (refuses_at k _ _ _ (seen_size _ _ _ c.in-Size.is) (refuse_wrong _ _ _ (not_constant _ (size _ _))))

pub draft-returns-in-Time : goal.draft-returns-in-Time
draft-returns-in-Time g t c =
    let k = g.L.Lookup.sees c.args.known.now in
    rw c.refused-in-Time.ensures (refuses_at k _ _ _ (seen_time _ _ c.in-Time.is) (refuse_wrong _ _ _ (not_constant _ (time _))))

pub draft-returns-in_ok-b-in-Item : goal.draft-returns-in_ok-b-in-Item
draft-returns-in_ok-b-in-Item g t c =
    let k = g.L.Lookup.sees c.args.known.now in
    rw c.item_draft.ensures (drafted_at k _ _ _ (seen_item _ _ _ _ c.in-Item.is) (drafted_item k _ _ _ _ _ (drafted_of k _ _ _ c.get.ensures c.in_ok-a-in-Item.ensures) (drafted_of k _ _ _ c.get-in-Item.ensures c.in_ok-b-in-Item.ensures)))

pub draft-returns-in_ok-a-in-Sign : goal.draft-returns-in_ok-a-in-Sign
draft-returns-in_ok-a-in-Sign g t c =
    let k = g.L.Lookup.sees c.args.known.now in
    rw c.sign_draft.ensures (drafted_at k _ _ _ (seen_sign _ _ _ _ c.in-Sign.is) (drafted_sign k _ _ _ _ (drafted_of k _ _ _ c.get-in-Sign.ensures c.in_ok-a-in-Sign.ensures)))

pub draft-returns-in_ok-m-in-Part : goal.draft-returns-in_ok-m-in-Part
draft-returns-in_ok-m-in-Part g t c =
    let k = g.L.Lookup.sees c.args.known.now in
    drafts_at k _ _ c.part_draft.result (seen_part _ _ _ _ _ c.in-Part.is) (drafts_part k _ _ _ _ _ _ _ c.part_draft.result (drafted_of k _ _ _ c.get-in-Part.ensures c.in_ok-a-in-Part.ensures) (counted_of k _ _ _ c.get-in-Part-2.ensures c.in_ok-n-in-Part.ensures) (counted_of k _ _ _ c.get-in-Part-3.ensures c.in_ok-m-in-Part.ensures) c.part_draft.ensures)

pub draft-returns-in_ok-n-in-Indexed : goal.draft-returns-in_ok-n-in-Indexed
draft-returns-in_ok-n-in-Indexed g t c =
    let k = g.L.Lookup.sees c.args.known.now in
    drafts_at k _ _ c.indexed_draft.result (seen_indexed _ _ _ _ _ _ c.in-Indexed.is) (drafts_indexed k _ _ _ _ _ _ _ _ c.indexed_draft.result (drafted_of k _ _ _ c.get-in-Indexed.ensures c.in_ok-a-in-Indexed.ensures) (drafted_of k _ _ _ c.get-in-Indexed-2.ensures c.in_ok-b-in-Indexed.ensures) (measured_of k _ _ _ c.get-in-Indexed-3.ensures c.in_ok-n-in-Indexed.ensures) c.indexed_draft.ensures)

pub draft-returns-in_ok-all-in-Concat : goal.draft-returns-in_ok-all-in-Concat
draft-returns-in_ok-all-in-Concat g t c =
    let k = g.L.Lookup.sees c.args.known.now in
    drafts_at k _ _ c.concat_draft.result (seen_concat _ _ _ c.in-Concat.is) (drafts_concat k _ _ _ c.concat_draft.result (summed_of k _ _ _ c.as_slice.ensures c.in_ok-all-in-Concat.ensures) c.concat_draft.ensures)

pub draft-returns-in_ok-all-in-Repeat : goal.draft-returns-in_ok-all-in-Repeat
draft-returns-in_ok-all-in-Repeat g t c =
    let k = g.L.Lookup.sees c.args.known.now in
    drafts_at k _ _ c.repeat_draft.result (seen_repeat _ _ _ _ c.in-Repeat.is) (drafts_repeat k _ _ _ _ _ c.repeat_draft.result (counted_of k _ _ _ c.get-in-Repeat.ensures c.in_ok-times-in-Repeat.ensures) (summed_of k _ _ _ c.as_slice-in-Repeat.ensures c.in_ok-all-in-Repeat.ensures) c.repeat_draft.ensures)

pub draft-returns-in_ok-a-in-Unary : goal.draft-returns-in_ok-a-in-Unary
draft-returns-in_ok-a-in-Unary g t c =
    let k = g.L.Lookup.sees c.args.known.now in
    drafts_one k _ _ c.unary_draft.result c.unary_draft.ensures.ok c.unary_draft.ensures.err (λ a h. drafted_at k _ _ a (seen_unary _ _ _ _ c.in-Unary.is) (drafted_unary k _ _ _ _ a (drafted_of k _ _ _ c.get-in-Unary.ensures c.in_ok-a-in-Unary.ensures) h))

pub draft-returns-in_ok-b-in-Binary : goal.draft-returns-in_ok-b-in-Binary
draft-returns-in_ok-b-in-Binary g t c =
    let k = g.L.Lookup.sees c.args.known.now in
    drafts_one k _ _ c.binary_draft.result c.binary_draft.ensures.ok c.binary_draft.ensures.err (λ a h. drafted_at k _ _ a (seen_binary _ _ _ _ _ c.in-Binary.is) (drafted_binary k _ _ _ _ _ _ a (drafted_of k _ _ _ c.get-in-Binary.ensures c.in_ok-a-in-Binary.ensures) (drafted_of k _ _ _ c.get-in-Binary-2.ensures c.in_ok-b-in-Binary.ensures) h))

pub draft-returns-in_ok-b-in-Choose : goal.draft-returns-in_ok-b-in-Choose
draft-returns-in_ok-b-in-Choose g t c =
    let k = g.L.Lookup.sees c.args.known.now in
    drafts_one k _ _ c.choose_draft.result c.choose_draft.ensures.ok c.choose_draft.ensures.err (λ a h. drafted_at k _ _ a (seen_choose _ _ _ _ _ c.in-Choose.is) (drafted_choose k _ _ _ _ _ _ _ a (drafted_of k _ _ _ c.get-in-Choose.ensures c.in_ok-q-in-Choose.ensures) (drafted_of k _ _ _ c.get-in-Choose-2.ensures c.in_ok-a-in-Choose.ensures) (drafted_of k _ _ _ c.get-in-Choose-3.ensures c.in_ok-b-in-Choose.ensures) h))

pub all_of-returns-in_err-a : goal.all_of-returns-in_err-a
all_of-returns-in_err-a g t c =
    let k = g.L.Lookup.sees c.args.known.now in
    let p = err_from_is_err_and c.from_residual.result c.from_residual.ensures.1 in
    subst (λ r. Severals k c.args.parts.now r) (sym (p.1 ∙ ap (λ f. Err f) p.2))
    (adding_err k c.args.parts.now c.loop-part.part-index _ _ c.in_err-a.field-0.0 (opened c.args.parts.now c.loop-part.part-index _ c.loop-part-test.true c.part-item.is) c.in_err-a.ensures c.loop-part.invariant)

pub all_of-returns : goal.all_of-returns
all_of-returns g t c = adding_done _ _ c.loop-part.part-index _ (omega arith) c.loop-part.invariant

pub all_of-loop-part-preserved : goal.all_of-loop-part-preserved
all_of-loop-part-preserved g t c =
    let k = g.L.Lookup.sees c.args.known.now in
    adding_more k _ _ _ _ _ _ (opened c.args.parts.now c.loop-part.part-index _ c.loop-part-test.true c.part-item.is) c.in_ok-a.ensures c.grow-all.ensures c.loop-part.invariant
