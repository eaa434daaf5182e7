use Rattle.std.proofs.Common.{◌≡◌, length, ◌+◌, ◌-◌, ◌*◌, []}
use Rattle.nt_read_stmt.specs.Reader as spec
use Rattle.nt_read_stmt.specs.Reader.{inside}
use Rattle.nt_read_stmt.proofs.Turns.{after}
use Rattle.nt_read_stmt.proofs.statements.+stating.Given as goal

abbrev pub decreases-nested : goal.decreases-nested
decreases-nested l = 16 * l.depth

abbrev pub decreases-led : goal.decreases-led
decreases-led l = 16 * l.depth + 7

abbrev pub decreases-statements : goal.decreases-statements
decreases-statements l = 16 * l.depth + 6

abbrev pub decreases-block : goal.decreases-block
decreases-block l = 16 * l.depth + 7

abbrev pub decreases-arm : goal.decreases-arm
decreases-arm l = 16 * l.depth + 5

abbrev pub decreases-arms : goal.decreases-arms
decreases-arms l = 16 * l.depth + 6

abbrev pub decreases-default : goal.decreases-default
decreases-default l = 16 * l.depth + 6

abbrev pub decreases-case_of : goal.decreases-case_of
decreases-case_of l = 16 * l.depth + 7

abbrev pub decreases-choice_turn : goal.decreases-choice_turn
decreases-choice_turn l = 16 * l.depth + 7

abbrev pub decreases-turn : goal.decreases-turn
decreases-turn l = 16 * l.depth + 8

abbrev pub decreases-statement_in : goal.decreases-statement_in
decreases-statement_in l = 16 * l.depth + 9

abbrev pub invariant-statement_in-loop-turn : goal.invariant-statement_in-loop-turn
invariant-statement_in-loop-turn l =
    spec.statement l.limit l.depth (inside l.limit l.depth) (l.limit + 1) l.fn.tokens
    ≡ after l.limit l.depth (inside l.limit l.depth) l.links (spec.statement l.limit l.depth (inside l.limit l.depth) (l.limit + 1 - l._turn) l.rest)

abbrev pub invariant-statements-loop-turn : goal.invariant-statements-loop-turn
invariant-statements-loop-turn l =
    spec.statements l.limit l.depth (inside l.limit l.depth) (length l.fn.tokens + 1) [] l.fn.tokens ≡ spec.statements l.limit l.depth (inside l.limit l.depth) (l._turn-end - l._turn + 1) l.all l.rest

abbrev pub invariant-arms-loop-turn : goal.invariant-arms-loop-turn
invariant-arms-loop-turn l =
    spec.arms l.limit l.depth (inside l.limit l.depth) (length l.fn.tokens + 1) [] l.fn.tokens ≡ spec.arms l.limit l.depth (inside l.limit l.depth) (l._turn-end - l._turn + 1) l.all l.rest
