use Rattle.std.proofs.Common.{◌<◌, List, length, get_or, arith, sym, refl, subst, ◌+◌, ℕ}
use Rattle.nt_merge.proofs.Counting.{Filled, counted, filled_stop, filled_more, filled_all}
use Rattle.nt_merge.proofs.drivers.fill.Goals as goal

pub returns-in-Some : goal.returns-in-Some
returns-in-Some c = λ least h.
    let at = c.loop-at.at in
    let driven = c.args.driven.now in
    let numbers = c.args.numbers.now in
    let segment = get_or driven at 0 in
    let i = c.loop-at.invariant least h in
    let end = c.requires.ends at 0 c.loop-at-test.true in
    let size = h.size in
    let lt : segment < length least = omega (arith, end, size) in
    filled_stop c.len.result c.in-Some.fault i c.loop-at-test.true (counted c.loop-at.lists c.index-lists-net.result numbers (get_or numbers segment 0) c.len.result i h lt refl c.len.ensures) c.in-Some.ensures

pub loop-at-preserved : goal.loop-at-preserved
loop-at-preserved c = λ least h.
    let at = c.loop-at.at in
    let driven = c.args.driven.now in
    let numbers = c.args.numbers.now in
    let segment = get_or driven at 0 in
    let net = get_or numbers segment 0 in
    let i = c.loop-at.invariant least h in
    let end = c.requires.ends at 0 c.loop-at-test.true in
    let size = h.size in
    let lt : segment < length least = omega (arith, end, size) in
    subst (λ (l : List (List ℕ)). Filled least driven c.args.resolved.now (length c.args.lists.now) (at + 1) l) (sym c.in_ok-add.ensures.ok)
    (filled_more numbers net c.len.result i h lt refl (counted c.loop-at.lists c.index-lists-net.result numbers net c.len.result i h lt refl c.len.ensures) c.in_default.ensures)

pub returns : goal.returns
returns c = λ least h. let end = c.loop-at-test.false in let size = c.loop-at.auto.at-end in filled_all (c.loop-at.invariant least h) h (omega (arith, end, size))
