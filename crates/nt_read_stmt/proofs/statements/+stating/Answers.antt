use Rattle.std.proofs.Common.{◌+◌, ◌∙◌, rules, arith}
use Rattle.std.proofs.lemmas.Grind.{common_steps}
use Rattle.nt_read_stmt.specs.Reader.{inside}
use Rattle.nt_read_stmt.proofs.Turns.{statements_turn, statements_end, arms_turn, arms_end, links_begin, links_turn, links_end, turn_nothing, inside_zero, inside_suc}
use Rattle.nt_read_stmt.proofs.statements.+stating.Goals as goal

pub nested-returns-then-depth-eq0 : goal.nested-returns-then-depth-eq0
nested-returns-then-depth-eq0 t c = inside_zero c.args.limit c.args.depth c.args.tokens.now (omega arith)

pub nested-returns : goal.nested-returns
nested-returns t c = rw (inside_suc c.args.limit c.args.depth c.args.tokens.now (omega arith)) c.statement_in.ensures

pub statements-returns-then-is_word : goal.statements-returns-then-is_word
statements-returns-then-is_word t c =
    let e = c.loop-turn.invariant ∙ statements_turn c.args.limit c.args.depth (inside c.args.limit c.args.depth) _ c.loop-turn._turn c.loop-turn.all c.loop-turn.rest.now c.loop-turn-test.true in
    first_of (search rules, grind (arith, common_steps))

pub statements-returns-in_err-x : goal.statements-returns-in_err-x
statements-returns-in_err-x t c =
    let e = c.loop-turn.invariant ∙ statements_turn c.args.limit c.args.depth (inside c.args.limit c.args.depth) _ c.loop-turn._turn c.loop-turn.all c.loop-turn.rest.now c.loop-turn-test.true in
    first_of (search rules, grind (arith, common_steps))

pub statements-loop-turn-preserved : goal.statements-loop-turn-preserved
statements-loop-turn-preserved t c =
    let e = c.loop-turn.invariant ∙ statements_turn c.args.limit c.args.depth (inside c.args.limit c.args.depth) _ c.loop-turn._turn c.loop-turn.all c.loop-turn.rest.now c.loop-turn-test.true in
    first_of (search rules, grind (arith, common_steps))

pub statements-returns-in_err-rest : goal.statements-returns-in_err-rest
statements-returns-in_err-rest t c =
    let e = c.loop-turn.invariant ∙ statements_end c.args.limit c.args.depth (inside c.args.limit c.args.depth) _ c.loop-turn._turn c.loop-turn.all c.loop-turn.rest.now c.loop-turn-test.false in
    first_of (search rules, grind (arith, common_steps))

pub statements-returns : goal.statements-returns
statements-returns t c =
    let e = c.loop-turn.invariant ∙ statements_end c.args.limit c.args.depth (inside c.args.limit c.args.depth) _ c.loop-turn._turn c.loop-turn.all c.loop-turn.rest.now c.loop-turn-test.false in
    first_of (search rules, grind (arith, common_steps))

pub arms-returns-then-not-arm_first : goal.arms-returns-then-not-arm_first
arms-returns-then-not-arm_first t c =
    let e = c.loop-turn.invariant ∙ arms_turn c.args.limit c.args.depth (inside c.args.limit c.args.depth) _ c.loop-turn._turn c.loop-turn.all c.loop-turn.rest.now c.loop-turn-test.true in
    first_of (search rules, grind (arith, common_steps))

pub arms-returns-in_err-x : goal.arms-returns-in_err-x
arms-returns-in_err-x t c =
    let e = c.loop-turn.invariant ∙ arms_turn c.args.limit c.args.depth (inside c.args.limit c.args.depth) _ c.loop-turn._turn c.loop-turn.all c.loop-turn.rest.now c.loop-turn-test.true in
    first_of (search rules, grind (arith, common_steps))

pub arms-loop-turn-preserved : goal.arms-loop-turn-preserved
arms-loop-turn-preserved t c =
    let e = c.loop-turn.invariant ∙ arms_turn c.args.limit c.args.depth (inside c.args.limit c.args.depth) _ c.loop-turn._turn c.loop-turn.all c.loop-turn.rest.now c.loop-turn-test.true in
    first_of (search rules, grind (arith, common_steps))

pub arms-returns-then-arm_first : goal.arms-returns-then-arm_first
arms-returns-then-arm_first t c =
    let e = c.loop-turn.invariant ∙ arms_end c.args.limit c.args.depth (inside c.args.limit c.args.depth) _ c.loop-turn._turn c.loop-turn.all c.loop-turn.rest.now c.loop-turn-test.false in
    first_of (search rules, grind (arith, common_steps))

pub arms-returns : goal.arms-returns
arms-returns t c =
    let e = c.loop-turn.invariant ∙ arms_end c.args.limit c.args.depth (inside c.args.limit c.args.depth) _ c.loop-turn._turn c.loop-turn.all c.loop-turn.rest.now c.loop-turn-test.false in
    first_of (search rules, grind (arith, common_steps))

pub turn-returns-in_default : goal.turn-returns-in_default
turn-returns-in_default t c =
    let e = turn_nothing c.args.limit c.args.depth (inside c.args.limit c.args.depth) in
    first_of (search rules, grind (arith, common_steps))

pub statement_in-loop-turn-init : goal.statement_in-loop-turn-init
statement_in-loop-turn-init t c =
    let e = links_begin c.args.limit c.args.depth (inside c.args.limit c.args.depth) in
    first_of (search rules, grind (arith, common_steps))

pub statement_in-returns-in_err-piece : goal.statement_in-returns-in_err-piece
statement_in-returns-in_err-piece t c =
    let e = c.loop-turn.invariant ∙ links_turn c.args.limit c.args.depth (inside c.args.limit c.args.depth) (c.args.limit + 1) c.loop-turn._turn c.loop-turn.links c.loop-turn.rest.now (omega arith) in
    first_of (search rules, grind (arith, common_steps))

pub statement_in-returns-in-Ends : goal.statement_in-returns-in-Ends
statement_in-returns-in-Ends t c =
    let e = c.loop-turn.invariant ∙ links_turn c.args.limit c.args.depth (inside c.args.limit c.args.depth) (c.args.limit + 1) c.loop-turn._turn c.loop-turn.links c.loop-turn.rest.now (omega arith) in
    first_of (search rules, grind (arith, common_steps))

pub statement_in-loop-turn-preserved : goal.statement_in-loop-turn-preserved
statement_in-loop-turn-preserved t c =
    let e = c.loop-turn.invariant ∙ links_turn c.args.limit c.args.depth (inside c.args.limit c.args.depth) (c.args.limit + 1) c.loop-turn._turn c.loop-turn.links c.loop-turn.rest.now (omega arith) in
    first_of (search rules, grind (arith, common_steps))

pub statement_in-returns : goal.statement_in-returns
statement_in-returns t c =
    let e = c.loop-turn.invariant ∙ links_end c.args.limit c.args.depth (inside c.args.limit c.args.depth) (c.args.limit + 1) c.loop-turn._turn c.loop-turn.links c.loop-turn.rest.now (omega arith) in
    first_of (search rules, grind (arith, common_steps))
