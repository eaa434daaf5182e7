use Rattle.std.proofs.Common.{◌∙◌, ◌≤◌, arith, length-set}
use Rattle.nt_merge.proofs.Trees.{down_set, grandparent, grandparent_low, halved, same_tree}
use Rattle.nt_merge.proofs.forest.root.Goals as goal

pub loop-parents-preserved : goal.loop-parents-preserved
loop-parents-preserved c =
    let ps = c.loop-parents.parents in
    let at = c.loop-parents.at in
    let i = c.loop-parents.invariant in
    let down : grandparent ps at ≤ at = omega (arith, grandparent_low ps at i.downward i.within, i.downward at i.within) in
    record {
      within = omega (arith, down, i.within, length-set ps at (grandparent ps at));
      downward = down_set ps at (grandparent ps at) i.downward i.within down;
      roots = λ roots h. let k = i.roots roots h in (halved ps roots at i.downward i.within k.0, same_tree ps roots at i.downward i.within k.0 ∙ k.1);
    }
