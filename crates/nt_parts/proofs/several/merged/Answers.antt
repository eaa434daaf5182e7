use Rattle.std.proofs.Common.{◌+◌, ◌++◌, [], ◌∷◌, length, take, ap, sym, ◌∙◌, arith}
use Rattle.std.proofs.lemmas.List.{length-take}
use Rattle.nt_value.specs.Logic.{truth_of}
use Rattle.nt_value.specs.Operators.{choice_of}
use Rattle.nt_value.specs.Values.{shape_of}
use Rattle.nt_design.specs.Parts as parts
use Rattle.nt_parts.proofs.Joined.{merged_few, merged_more, same_leaf, same_length}
use Rattle.nt_parts.proofs.several.merged.Goals as goal

pub merge-requires : goal.merge-requires
merge-requires c =
    let same = ap shape_of c.items-xs.ensures.value ∙ (c.requires ∙ sym (ap shape_of c.items-ys.ensures.value)) in
    same_leaf c.items-xs.result.now c.items-ys.result.now c.loop-i.i c.index-xs-i.result c.index-ys-i.result same (omega arith) c.index-xs-i.is c.index-ys-i.is

pub loop-i-preserved : goal.loop-i-preserved
loop-i-preserved c =
    let same = ap shape_of c.items-xs.ensures.value ∙ (c.requires ∙ sym (ap shape_of c.items-ys.ensures.value)) in
    let long = same_length c.items-xs.result.now c.items-ys.result.now same in
    let joined = c.merge.ensures ∙ ap (λ u. choice_of (truth_of u.digits) c.index-xs-i.result c.index-ys-i.result) c.default-unknown.ensures in
    c.in_ok-push.ensures.items
    ∙ (ap (λ l. l ++ c.merge.result ∷ []) c.loop-i.invariant
    ∙ (ap (λ v. parts.merged (take c.loop-i.i c.items-xs.result.now) (take c.loop-i.i c.items-ys.result.now) ++ v ∷ []) joined
    ∙ sym (merged_more c.items-xs.result.now c.items-ys.result.now c.loop-i.i (c.loop-i.i + 1) c.index-xs-i.result c.index-ys-i.result long (omega arith) (omega arith) c.index-xs-i.is c.index-ys-i.is)))

pub new-requires : goal.new-requires
new-requires c =
    let e = ap length c.loop-i.invariant in
    let f = merged_few (take c.loop-i.i c.items-xs.result.now) (take c.loop-i.i c.items-ys.result.now) in
    let g = length-take c.loop-i.i c.items-xs.result.now in
    let h = ap length c.items-xs.ensures.value in
    let w = c.items-xs.ensures.within in
    omega (arith, e, f, g, h, w)
