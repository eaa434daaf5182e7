use Rattle.std.proofs.Common.{◌≡◌, ◌++◌, ◌∷◌, [], List, ap, sym, ◌∙◌}
use Rattle.std.proofs.lemmas.List.{take_all}
use Rattle.std.specs.List.{flat_map}
use Rattle.nt_semantics.specs.State.{to_do}
use Rattle.nt_semantics.specs.declared.work.Work.{Work}
use Rattle.nt_work.proofs.Unfolds.{alone_is, block_is_all, empty_is}
use Rattle.nt_design.specs.declared.act.Act.{Act}
use Rattle.nt_semantics.specs.declared.work.Work.TheVariants.{Do}
use Rattle.nt_work.proofs.to_do.+add_to_do.Goals as goal
use Rattle.nt_work.proofs.to_do.+add_to_do.Goals.{in-Block+else-not-is_empty, in_default}

pub returns-then-not-is_empty : goal.returns-then-not-is_empty
returns-then-not-is_empty t c =
    c.loop-inner.invariant ∙ ap (λ (l : List Work). c.args.items.now ++ l)
    (ap (flat_map to_do) (take_all c.loop-inner.inner-index c.as_slice-inner-items.result.now c.loop-inner-test.false ∙ c.as_slice-inner-items.ensures) ∙ (sym (block_is_all c.in-Block.acts c.in-Block.at c.if-not-is_empty.ensures.1) ∙ ap to_do (sym c.in-Block.is)))

pub returns : goal.returns
returns t c =
    let one : to_do c.args.act.now ≡ Do c.args.act.now ∷ [] = elim c.match-act.branch [
      | in-Block+else-not-is_empty w ↦ rw w.in-Block.is (empty_is w.in-Block.acts w.in-Block.at w.if-not-is_empty.ensures.0)
      | in_default w ↦ alone_is c.args.act.now w.in_default.not-Block
    ] in
    c.in_ok-push.ensures.ok ∙ ap (λ (l : List Work). c.args.items.now ++ l) (ap (λ (a : Act). Do a ∷ []) (c.in_ok-act.ensures ∙ c.in_ok-copy_act.ensures) ∙ sym one)
