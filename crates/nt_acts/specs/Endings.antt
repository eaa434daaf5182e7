-- How the turn of a loop ends (IEEE 1800-2017, 12.7, 12.8), so that a loop is one turn after another.
use Rattle.std.specs.Prelude.{List, Option, Some, None}
use Rattle.nt_design.specs.Expressions.{Calls, World, value_of}
use Rattle.nt_design.specs.Parts.{Value, test_of}
use Rattle.nt_design.specs.Statements.{Doing, always, nothing}
use Rattle.nt_design.specs.Turns.{Timing, and_then, pick, spend}
use Rattle.nt_design.specs.declared.act.Flow.{Flow}
use Rattle.nt_design.specs.declared.act.Flow.TheVariants.{Next, Broke, Continued, Returned}
use Rattle.nt_design.specs.declared.tree.Tree.{Tree}

-- the locals after a turn, and where the loop leaves off if that ends it
abbrev pub Ending : Type 0
Ending = Timing (List Value × Option Flow)

-- whether the flow of a body ends the loop, and where the loop then leaves off
abbrev pub ends : Flow → Option Flow
ends Next = None
ends Continued = None
ends Broke = Some Next
ends Returned = Some Returned

-- the same of the flow of a step
abbrev pub passes : Flow → Option Flow
passes Next = None
passes Broke = Some Broke
passes Continued = Some Continued
passes Returned = Some Returned

-- goes on where nothing ended
abbrev pub goes_with : Option Flow → Doing → Doing
goes_with None go locals left = go locals left
goes_with (Some flow) go locals left = Some ((locals, flow), left)

-- one turn of a body
abbrev pub once : Doing → Ending
once body locals left = spend left (λ l. and_then (body locals l) (λ e k. Some ((e.0, ends e.1), k)))

-- a step, where nothing ended
abbrev pub then_step : Option Flow → Doing → Ending
then_step None step locals left = and_then (step locals left) (λ e k. Some ((e.0, passes e.1), k))
then_step (Some flow) step locals left = Some ((locals, Some flow), left)

-- one turn of a loop with a test and a step
abbrev pub turn : Timing Value → Doing → Doing → Ending
turn test step body locals left =
    and_then (test locals left) (λ t l.
    pick (test_of t)
    (and_then (once body locals l) (λ e k. then_step e.1 step e.0 k))
    (Some ((locals, Some Next), l)) (Some ((locals, Some Next), l)))

-- the test that there may be; without one a loop goes on
abbrev pub test_or_always : Calls → World → Option Tree → Timing Value
test_or_always calls world None = always
test_or_always calls world (Some test) = value_of calls world test

-- the step that there may be
abbrev pub step_or_nothing : Option Doing → Doing
step_or_nothing None = nothing
step_or_nothing (Some step) = step
