use Rattle.std.proofs.Common.{◌+◌, ◌-◌, ◌∙◌, rules, arith}
use Rattle.std.proofs.lemmas.Grind.{common_steps}
use Rattle.nt_read_expr.specs.Reader as spec
use Rattle.nt_read_expr.specs.Reader.{below}
use Rattle.nt_read_expr.proofs.Turns.{selects_turn, selects_end}
use Rattle.nt_read_expr.proofs.reading.Grammar.selects.Goals as goal

pub returns-in_err-found : goal.returns-in_err-found
returns-in_err-found g c =
    let e = c.loop-turn.invariant ∙ selects_turn c.args.self.now.limit (below c.args.self.now.limit c.args.self.now.depth) c.args.free (c.args.self.now.limit + 1) c.loop-turn._turn c.args.at c.loop-turn.whole c.loop-turn.rest.now (omega arith) in
    first_of (search rules, grind (arith, common_steps))

pub returns-then-not-found : goal.returns-then-not-found
returns-then-not-found g c =
    let e = c.loop-turn.invariant ∙ selects_turn c.args.self.now.limit (below c.args.self.now.limit c.args.self.now.depth) c.args.free (c.args.self.now.limit + 1) c.loop-turn._turn c.args.at c.loop-turn.whole c.loop-turn.rest.now (omega arith) in
    first_of (search rules, grind (arith, common_steps))

pub loop-turn-preserved : goal.loop-turn-preserved
loop-turn-preserved g c =
    let e = c.loop-turn.invariant ∙ selects_turn c.args.self.now.limit (below c.args.self.now.limit c.args.self.now.depth) c.args.free (c.args.self.now.limit + 1) c.loop-turn._turn c.args.at c.loop-turn.whole c.loop-turn.rest.now (omega arith) in
    first_of (search rules, grind (arith, common_steps))

pub returns : goal.returns
returns g c =
    let e = c.loop-turn.invariant ∙ selects_end c.args.self.now.limit (below c.args.self.now.limit c.args.self.now.depth) c.args.free (c.args.self.now.limit + 1) c.loop-turn._turn c.args.at c.loop-turn.whole c.loop-turn.rest.now (omega arith) in
    first_of (search rules, grind (arith, common_steps))
