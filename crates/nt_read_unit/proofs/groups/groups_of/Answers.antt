use Rattle.std.proofs.Common.{◌∙◌, rules, arith}
use Rattle.std.proofs.lemmas.Grind.{common_steps}
use Rattle.nt_read_unit.proofs.Turns.{groups_turn, groups_end}
use Rattle.nt_read_unit.proofs.groups.groups_of.Goals as goal

pub returns-in_err-group : goal.returns-in_err-group
returns-in_err-group g c =
    let e = c.loop-turn.invariant ∙ groups_turn _ _ _ c.loop-turn._turn c.loop-turn.all c.loop-turn.rest.now c.loop-turn-test.true in
    first_of (search rules, grind (arith, common_steps))

pub returns-then-not-goes : goal.returns-then-not-goes
returns-then-not-goes g c =
    let e = c.loop-turn.invariant ∙ groups_turn _ _ _ c.loop-turn._turn c.loop-turn.all c.loop-turn.rest.now c.loop-turn-test.true in
    first_of (search rules, grind (arith, common_steps))

pub loop-turn-preserved : goal.loop-turn-preserved
loop-turn-preserved g c =
    let e = c.loop-turn.invariant ∙ groups_turn _ _ _ c.loop-turn._turn c.loop-turn.all c.loop-turn.rest.now c.loop-turn-test.true in
    first_of (search rules, grind (arith, common_steps))

pub returns-then-goes : goal.returns-then-goes
returns-then-goes g c =
    let e = c.loop-turn.invariant ∙ groups_end _ _ _ c.loop-turn._turn c.loop-turn.all c.loop-turn.rest.now c.loop-turn-test.false in
    first_of (search rules, grind (arith, common_steps))

pub returns : goal.returns
returns g c =
    let e = c.loop-turn.invariant ∙ groups_end _ _ _ c.loop-turn._turn c.loop-turn.all c.loop-turn.rest.now c.loop-turn-test.false in
    first_of (search rules, grind (arith, common_steps))
