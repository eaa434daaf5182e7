use Rattle.std.proofs.Common.{◌≡◌, ◌++◌, ◌∷◌, [], append-nil, length-append, length, length-take, take, List, ℕ, ◌-◌, arith, sym, ap, ◌∙◌, inl, inr}
use Rattle.std.proofs.lemmas.List.{take_all}
use Rattle.nt_items.specs.declared.item.Item.TheViews.{out-Item}
use Rattle.nt_instances.specs.declared.rows.Row.{Row}
use Rattle.nt_instances.specs.Rows.{instances, from_child, child}
use Rattle.nt_instances.proofs.Walking.{nothing_more, walk_begins, walk_goes}
use Rattle.nt_instances.proofs.walk.+walk.Goals.{then-depth-eq0-via-then-depth-eq0, then-depth-eq0-via-else-depth-eq0+then-len-limit, in-Some+in_ok-walk, in_default}
use Rattle.nt_instances.proofs.walk.+walk.Goals as goal

pub returns-then-depth-eq0 : goal.returns-then-depth-eq0
returns-then-depth-eq0 t c = nothing_more _ _ _ _ _ c.requires.room (elim c.then-depth-eq0.branch [ then-depth-eq0-via-then-depth-eq0 w ↦ inl (omega arith) | then-depth-eq0-via-else-depth-eq0+then-len-limit w ↦ inr (omega arith) ])

pub loop-index-init : goal.loop-index-init
loop-index-init t c = record {
  room = omega (arith, ap length c.in_ok-push.ensures.ok, length-append c.args.rows.now (c.in_ok-copy.copy ∷ []));
  left = walk_begins c.args.limit c.args.depth c.args.modules.now c.args.row c.args.rows.now c.push.new.self c.items-items.result.now c.len-here.result c.len-here.ensures c.if-depth-eq0.false (c.in_ok-push.ensures.ok ∙ ap (λ r. c.args.rows.now ++ r ∷ []) c.in_ok-copy.ensures) c.items-items.ensures;
}

pub loop-index-preserved : goal.loop-index-preserved
loop-index-preserved t c =
    let below : ℕ → Row → List Row = instances (c.args.depth - 1) c.args.modules.now in
    let n = length c.loop-index.rows in
    let next = child c.args.modules.now c.len-here.result c.args.row c.loop-index.index (out-Item c.index-items-index.result) in
    elim c.match-branch-4.branch [
      | in-Some+in_ok-walk w ↦
          let e : c.match-branch-4.rows ≡ take c.args.limit (c.loop-index.rows ++ from_child below n next) =
          w.rows-is ∙ w.in_ok-walk.ensures ∙ ap (λ o. take c.args.limit (c.loop-index.rows ++ from_child below n o)) (sym w.in-Some.is ∙ c.in_ok-next.ensures) in
          record {
            room = omega (arith, ap length e, length-take c.args.limit (c.loop-index.rows ++ from_child below n next));
            left = walk_goes c.args.limit below c.args.modules.now c.len-here.result c.args.row c.loop-index.rows c.match-branch-4.rows c.loop-index.index c.items-items.result.now c.index-items-index.result c.loop-index-test.true c.index-items-index.is e ∙ c.loop-index.invariant.left;
          }
      | in_default w ↦
          let nothing : from_child below n next ≡ [] = ap (from_child below n) (sym c.in_ok-next.ensures ∙ w.in_default.is) in
          let h = c.loop-index.invariant.room in
          let e : c.match-branch-4.rows ≡ take c.args.limit (c.loop-index.rows ++ from_child below n next) =
          w.rows-is ∙ sym (ap (λ us. take c.args.limit (c.loop-index.rows ++ us)) nothing ∙ ap (take c.args.limit) (append-nil c.loop-index.rows) ∙ take_all c.args.limit c.loop-index.rows h) in
          record {
            room = omega (arith, ap length w.rows-is);
            left = walk_goes c.args.limit below c.args.modules.now c.len-here.result c.args.row c.loop-index.rows c.match-branch-4.rows c.loop-index.index c.items-items.result.now c.index-items-index.result c.loop-index-test.true c.index-items-index.is e ∙ c.loop-index.invariant.left;
          }
    ]
