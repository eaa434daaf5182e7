use Rattle.std.proofs.Common.{rules}
use Rattle.nt_design.proofs.Values.{meaning_of_const}
use Rattle.nt_design.proofs.env.meaning.Goals as goal

-- src/env.rt:37:1
pub returns-clause-value : goal.returns-clause-value
returns-clause-value c =
    let by = meaning_of_const c.args.design.now.functions c.args.env.now c.args.tree.now c.in-Const.value in
    search (rules, by, c.in-Const.is)
