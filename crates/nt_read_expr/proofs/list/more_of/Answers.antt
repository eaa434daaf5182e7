use Rattle.std.proofs.Common.{◌∙◌, rules, arith}
use Rattle.std.proofs.lemmas.Grind.{common_steps}
use Rattle.nt_read_expr.proofs.Lists.{more_turn, more_end}
use Rattle.nt_read_expr.proofs.list.more_of.Goals as goal

pub returns-in_err-x : goal.returns-in_err-x
returns-in_err-x g c =
    let e = c.loop-turn.invariant ∙ more_turn c.args.by _ _ c.loop-turn._turn c.loop-turn.all c.loop-turn.rest.now c.loop-turn-test.true in
    first_of (search rules, grind (arith, common_steps))

pub returns-then-not-separates : goal.returns-then-not-separates
returns-then-not-separates g c =
    let e = c.loop-turn.invariant ∙ more_turn c.args.by _ _ c.loop-turn._turn c.loop-turn.all c.loop-turn.rest.now c.loop-turn-test.true in
    first_of (search rules, grind (arith, common_steps))

pub loop-turn-preserved : goal.loop-turn-preserved
loop-turn-preserved g c =
    let e = c.loop-turn.invariant ∙ more_turn c.args.by _ _ c.loop-turn._turn c.loop-turn.all c.loop-turn.rest.now c.loop-turn-test.true in
    first_of (search rules, grind (arith, common_steps))

pub returns-then-separates : goal.returns-then-separates
returns-then-separates g c =
    let e = c.loop-turn.invariant ∙ more_end c.args.by _ _ c.loop-turn._turn c.loop-turn.all c.loop-turn.rest.now c.loop-turn-test.false in
    first_of (search rules, grind (arith, common_steps))

pub returns : goal.returns
returns g c =
    let e = c.loop-turn.invariant ∙ more_end c.args.by _ _ c.loop-turn._turn c.loop-turn.all c.loop-turn.rest.now c.loop-turn-test.false in
    first_of (search rules, grind (arith, common_steps))
