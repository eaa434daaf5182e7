use Rattle.std.proofs.Common.{arith}
use Rattle.nt_merge.proofs.Trees.{merges}
use Rattle.nt_merge.proofs.forest.merge.Goals as goal

pub returns-clause-roots : goal.returns-clause-roots
returns-clause-roots c = λ roots h.
    let a = c.root-a.ensures.roots roots h in
    let b = c.root-b.ensures.roots roots a.0 in
    merges c.root-b.new.parents roots c.args.link c.root-a.result c.root-b.result c.max.result c.min.result c.root-b.ensures.downward (omega arith) (omega arith) a.1 b.1 c.max.ensures c.min.ensures b.0
