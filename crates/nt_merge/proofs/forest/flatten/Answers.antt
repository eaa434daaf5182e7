use Rattle.std.proofs.Common.{sym, ◌<◌, ◌≤◌, length, arith}
use Rattle.std.proofs.lemmas.List.{ext_get_or}
use Rattle.nt_merge.proofs.Trees.{down_set, grandparent, grandparent_low, halved, flat_more}
use Rattle.nt_merge.proofs.forest.flatten.Goals as goal

pub loop-at-preserved : goal.loop-at-preserved
loop-at-preserved c =
    let ps = c.loop-at.parents in
    let at = c.loop-at.at in
    let i = c.loop-at.invariant in
    let lt : at < length ps = omega arith in
    let down : grandparent ps at ≤ at = omega (arith, grandparent_low ps at i.downward lt, i.downward at lt) in
    record {
      downward = down_set ps at (grandparent ps at) i.downward lt down;
      roots = λ roots h. let k = i.roots roots h in (halved ps roots at i.downward lt k.0, flat_more ps roots at i.downward lt k.0 k.1);
    }

pub returns : goal.returns
returns c = λ roots h.
    let k = c.loop-at.invariant.roots roots h in
    let past = c.loop-at-test.false in
    ext_get_or 0 c.loop-at.parents roots (sym k.0.size) (λ a la. k.1 a (omega arith))
