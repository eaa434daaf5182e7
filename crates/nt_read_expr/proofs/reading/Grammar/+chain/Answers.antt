use Rattle.std.proofs.Common.{◌+◌, ◌-◌, ◌∙◌, rules, arith}
use Rattle.std.proofs.lemmas.Grind.{common_steps}
use Rattle.nt_read_expr.specs.Reader as spec
use Rattle.nt_read_expr.specs.Reader.{below}
use Rattle.nt_read_expr.proofs.Turns.{more_turn, more_end, chain_zero, chain_suc}
use Rattle.nt_read_expr.proofs.reading.Grammar.+chain.Goals as goal

pub returns-in_default-clause-value : goal.returns-in_default-clause-value
returns-in_default-clause-value g t c =
    let e = c.loop-turn.invariant.reads ∙ more_turn c.args.self.now.limit (below c.args.self.now.limit c.args.self.now.depth) (spec.chain c.args.self.now.limit (below c.args.self.now.limit c.args.self.now.depth) (c.args.height - 1)) c.args.height (c.args.self.now.limit + 1) c.loop-turn._turn c.start-at.result c.loop-turn.left c.loop-turn.count c.loop-turn.rest.now (omega arith) in
    first_of (search rules, grind (arith, common_steps))

pub returns-in_err-right-clause-value : goal.returns-in_err-right-clause-value
returns-in_err-right-clause-value g t c =
    let e = c.loop-turn.invariant.reads ∙ more_turn c.args.self.now.limit (below c.args.self.now.limit c.args.self.now.depth) (spec.chain c.args.self.now.limit (below c.args.self.now.limit c.args.self.now.depth) (c.args.height - 1)) c.args.height (c.args.self.now.limit + 1) c.loop-turn._turn c.start-at.result c.loop-turn.left c.loop-turn.count c.loop-turn.rest.now (omega arith) in
    first_of (search rules, grind (arith, common_steps))

pub returns-then-not-has_room-clause-value : goal.returns-then-not-has_room-clause-value
returns-then-not-has_room-clause-value g t c =
    let e = c.loop-turn.invariant.reads ∙ more_turn c.args.self.now.limit (below c.args.self.now.limit c.args.self.now.depth) (spec.chain c.args.self.now.limit (below c.args.self.now.limit c.args.self.now.depth) (c.args.height - 1)) c.args.height (c.args.self.now.limit + 1) c.loop-turn._turn c.start-at.result c.loop-turn.left c.loop-turn.count c.loop-turn.rest.now (omega arith) in
    first_of (search rules, grind (arith, common_steps))

pub loop-turn-preserved : goal.loop-turn-preserved
loop-turn-preserved g t c =
    let e = c.loop-turn.invariant.reads ∙ more_turn c.args.self.now.limit (below c.args.self.now.limit c.args.self.now.depth) (spec.chain c.args.self.now.limit (below c.args.self.now.limit c.args.self.now.depth) (c.args.height - 1)) c.args.height (c.args.self.now.limit + 1) c.loop-turn._turn c.start-at.result c.loop-turn.left c.loop-turn.count c.loop-turn.rest.now (omega arith) in
    first_of (search rules, grind (arith, common_steps))

pub returns-clause-value : goal.returns-clause-value
returns-clause-value g t c =
    let e = c.loop-turn.invariant.reads ∙ more_end c.args.self.now.limit (below c.args.self.now.limit c.args.self.now.depth) (spec.chain c.args.self.now.limit (below c.args.self.now.limit c.args.self.now.depth) (c.args.height - 1)) c.args.height (c.args.self.now.limit + 1) c.loop-turn._turn c.start-at.result c.loop-turn.left c.loop-turn.count c.loop-turn.rest.now (omega arith) in
    first_of (search rules, grind (arith, common_steps))

pub returns-in_err-x-clause-value : goal.returns-in_err-x-clause-value
returns-in_err-x-clause-value g t c =
    let e = chain_zero c.args.self.now.limit (below c.args.self.now.limit c.args.self.now.depth) c.args.height c.args.tokens.now (omega arith) in
    first_of (search rules, grind (arith, common_steps))

pub returns-then-height-eq0-clause-value : goal.returns-then-height-eq0-clause-value
returns-then-height-eq0-clause-value g t c =
    let e = chain_zero c.args.self.now.limit (below c.args.self.now.limit c.args.self.now.depth) c.args.height c.args.tokens.now (omega arith) in
    first_of (search rules, grind (arith, common_steps))

pub returns-in_err-left-clause-value : goal.returns-in_err-left-clause-value
returns-in_err-left-clause-value g t c =
    let e = chain_suc c.args.self.now.limit (below c.args.self.now.limit c.args.self.now.depth) c.args.height c.args.tokens.now (omega arith) in
    first_of (search rules, grind (arith, common_steps))

pub loop-turn-init : goal.loop-turn-init
loop-turn-init g t c =
    let e = chain_suc c.args.self.now.limit (below c.args.self.now.limit c.args.self.now.depth) c.args.height c.args.tokens.now (omega arith) in
    first_of (search rules, grind (arith, common_steps))
