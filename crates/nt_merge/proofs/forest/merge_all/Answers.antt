use Rattle.std.proofs.Common.{◌≤◌, length, arith}
use Rattle.nt_merge.proofs.Trees.{merged_none, merged_more, merged_all}
use Rattle.nt_merge.proofs.forest.merge_all.Goals as goal

pub loop-link-init : goal.loop-link-init
loop-link-init c = merged_none c.args.links.now c.args.parents.now c.requires.own

pub loop-link-preserved : goal.loop-link-preserved
loop-link-preserved c =
    merged_more c.merge.new.parents _ c.loop-link.invariant c.requires.within c.loop-link-test.true c.merge.ensures.downward c.merge.ensures.roots

pub returns-clause-roots : goal.returns-clause-roots
returns-clause-roots c = let past : length c.args.links.now ≤ c.loop-link.link-index = omega arith in merged_all c.loop-link.invariant past
