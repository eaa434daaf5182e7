use Rattle.std.proofs.Common.{◌≡◌, ◌-◌, ◌+◌, suc, ap, arith, subst, sym}
use Rattle.std.specs.Prelude.{None}
use Rattle.nt_patterns.specs.Picks.{IsFound, no_item}
use Rattle.nt_patterns.specs.declared.found.Found.TheVariants as found
use Rattle.nt_patterns.proofs.Serving.{element_slots}
use Rattle.nt_patterns.proofs.Kept.{items_none}
use Rattle.nt_patterns.proofs.Planning.{names_none, names_more, names_end}
use Rattle.nt_patterns.proofs.plans.for_each.Goals as goal

pub returns-in-None : goal.returns-in-None
returns-in-None c = λ element.
    let lt = c.loop-turn-test.true in
    let e : c.args.count - c.loop-turn._turn ≡ suc (c.args.count - (c.loop-turn._turn + 1)) = omega arith in
    names_none c.args.items.now (element_slots c.args.count element) (element_slots (c.args.count - (c.loop-turn._turn + 1)) element) (element_slots (c.args.count - c.loop-turn._turn) element) (None, element) c.loop-turn.all.items found.Nothing c.args.other c.one.result
    (ap (λ n. element_slots n element) e) (c.loop-turn.invariant element)
    (subst (λ xs. IsFound c.args.items.now xs found.Nothing) (sym (items_none c.args.items.now)) no_item) c.requires c.one.ensures c.in-None.is

pub loop-turn-preserved : goal.loop-turn-preserved
loop-turn-preserved c = λ element.
    let lt = c.loop-turn-test.true in
    let e : c.args.count - c.loop-turn._turn ≡ suc (c.args.count - (c.loop-turn._turn + 1)) = omega arith in
    names_more c.args.items.now (element_slots c.args.count element) (element_slots (c.args.count - (c.loop-turn._turn + 1)) element) (element_slots (c.args.count - c.loop-turn._turn) element) (None, element) c.loop-turn.all.items _ found.Nothing c.args.other c.one.result c.in-Some.index
    (ap (λ n. element_slots n element) e) (c.loop-turn.invariant element)
    (subst (λ xs. IsFound c.args.items.now xs found.Nothing) (sym (items_none c.args.items.now)) no_item) c.requires c.one.ensures c.in-Some.is c.in_ok-push-in-Some.ensures.items

pub returns : goal.returns
returns c = λ element.
    let ge = c.loop-turn-test.false in
    let e : c.args.count - c.loop-turn._turn ≡ 0 = omega arith in
    names_end c.args.items.now (element_slots c.args.count element) _ c.loop-turn.all.items (ap (λ n. element_slots n element) e) (c.loop-turn.invariant element)
