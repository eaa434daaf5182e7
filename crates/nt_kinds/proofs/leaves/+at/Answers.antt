use Rattle.std.proofs.Common.{◌+◌, ◌-◌, length, sym, ap, ◌∙◌, arith, drop, replicate}
use Rattle.std.specs.Prelude.{slice_get, min}
use Rattle.std.specs.List.{flat_map}
use Rattle.nt_kinds.specs.Kinds.{leaves, member_leaves}
use Rattle.nt_kinds.proofs.Counting.{no_leaf, first_here, past_here, elements_more, rest_of_members}
use Rattle.nt_kinds.proofs.leaves.+at.Goals as goal

pub leaf_at-returns-then-here-eq0 : goal.leaf_at-returns-then-here-eq0
leaf_at-returns-then-here-eq0 t c =
    sym (ap (λ s. slice_get s c.args.at) (no_leaf c.args.kind.now _ _ c.in-Array.element c.get.result.now c.size-here.result c.in-Array.is c.get.ensures c.size-here.ensures c.if-here-eq0.true))

pub leaf_at-returns-then-rest-here : goal.leaf_at-returns-then-rest-here
leaf_at-returns-then-rest-here t c =
    let n = c.span-index-end.result in
    let i = c.loop-index._index in
    let s = leaves c.in-Array.element in
    let rest = flat_map (λ s. s) (replicate (n - (i + 1)) s) in
    c.leaf_at.ensures
    ∙ ap (λ x. slice_get (leaves x) c.loop-index.rest) c.get-then-rest-here.ensures
    ∙ sym (first_here s rest c.loop-index.rest c.size-here.result (c.size-here.ensures ∙ ap (λ x. min (length (leaves x)) 65) c.get.ensures) c.if-rest-here.true)
    ∙ sym (ap (λ s. slice_get s c.loop-index.rest) (elements_more n i s c.loop-index-test.true))
    ∙ sym c.loop-index.invariant.is

pub leaf_at-loop-index-preserved : goal.leaf_at-loop-index-preserved
leaf_at-loop-index-preserved t c =
    let n = c.span-index-end.result in
    let i = c.loop-index._index in
    let s = leaves c.in-Array.element in
    let rest = flat_map (λ s. s) (replicate (n - (i + 1)) s) in
    record {
      low = let h = c.loop-index.invariant.low in omega (arith, h);
      is =
          let h = c.loop-index.invariant.low in
          c.loop-index.invariant.is
          ∙ ap (λ s. slice_get s c.loop-index.rest) (elements_more n i s c.loop-index-test.true)
          ∙ past_here s rest c.loop-index.rest c.size-here.result (c.size-here.ensures ∙ ap (λ x. min (length (leaves x)) 65) c.get.ensures) c.if-rest-here.false (omega (arith, h, c.requires));
    }

pub member_leaf-returns-then-rest-here : goal.member_leaf-returns-then-rest-here
member_leaf-returns-then-rest-here t c =
    let ms = c.args.members.now in
    let i = c.loop-name._name-index in
    let m = c.loop-name-item.result in
    c.leaf_at.ensures
    ∙ sym (first_here (leaves m.1) (member_leaves (drop (i + 1) ms)) c.loop-name.rest c.size-here.result c.size-here.ensures c.if-rest-here.true)
    ∙ sym (ap (λ s. slice_get s c.loop-name.rest) (rest_of_members ms i m c.loop-name-test.true c.loop-name-item.is))
    ∙ sym c.loop-name.invariant.is

pub member_leaf-loop-name-preserved : goal.member_leaf-loop-name-preserved
member_leaf-loop-name-preserved t c =
    let ms = c.args.members.now in
    let i = c.loop-name._name-index in
    let m = c.loop-name-item.result in
    record {
      low = let h = c.loop-name.invariant.low in omega (arith, h);
      is =
          let h = c.loop-name.invariant.low in
          c.loop-name.invariant.is
          ∙ ap (λ s. slice_get s c.loop-name.rest) (rest_of_members ms i m c.loop-name-test.true c.loop-name-item.is)
          ∙ past_here (leaves m.1) (member_leaves (drop (i + 1) ms)) c.loop-name.rest c.size-here.result c.size-here.ensures c.if-rest-here.false (omega (arith, h, c.requires));
    }
