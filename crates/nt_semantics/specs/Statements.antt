-- What one step of a procedure does: a deed, and what the procedure then has to do (IEEE 1800-2017, clauses 9, 10 and 12).
use Rattle.std.specs.Prelude.{ℕ, zero, suc, ◌+◌, ◌-◌, nat_le, Bool, true, false, if◌then◌else◌, List, [], ◌∷◌, ◌++◌, map, Option, Some, None}
use Rattle.std.specs.List.{flat_map}
use Rattle.nt_design.specs.Expressions.{World, Calls, value_of, values_of}
use Rattle.nt_design.specs.Parts.{Value, test_of, number_in, int_value, written}
use Rattle.nt_design.specs.Reads.{event_trees}
use Rattle.nt_design.specs.Statements.{path_of, count_of, is_among}
use Rattle.nt_design.specs.Turns.{Timing, and_then, pick}
use Rattle.nt_design.specs.declared.act.Act.{Act, out-Act}
use Rattle.nt_design.specs.declared.act.Act.TheOpen.{Act-F}
use Rattle.nt_design.specs.declared.target.Target.{Target}
use Rattle.nt_design.specs.declared.target.Target.TheVariants as target
use Rattle.nt_design.specs.declared.tree.Tree.{Tree}
use Rattle.nt_semantics.specs.Lines.{line_of}
use Rattle.nt_design.specs.Puts.{put_of}
use Rattle.nt_semantics.specs.State.{to_do, value_at}
use Rattle.nt_semantics.specs.declared.work.Work.{Work}
use Rattle.nt_semantics.specs.declared.work.Work.TheVariants.{Do, Testing, Stepping, Repeating, Counting, Each, Awaiting}
use Rattle.nt_design.specs.declared.put.Put.{Put}
use Rattle.nt_semantics.specs.declared.deed.Deed.{Deed}
use Rattle.nt_semantics.specs.declared.deed.Deed.TheVariants as deed

-- a deed, and what is left to do
abbrev pub Doing : Type 0
Doing = Timing (Deed × List Work)

abbrev pub does : Deed → List Work → Doing
does deed items locals left = Some ((deed, items), left)

-- nothing but going on with this
abbrev pub goes_on : List Work → Doing
goes_on items = does deed.GoesOn items

-- ---- assignments
-- The right side, then the path of the left one (10.4). Into a variable it is a write, which is made at once or scheduled;
-- a loop variable takes the value at once. No procedure writes a net (6.5).
abbrev pub assigns : Calls → World → (Put → Deed) → Target → Tree → List Work → Doing
assigns calls world make (target.Var v path) right rest locals left =
    and_then (value_of calls world right locals left) (λ x l.
    and_then (path_of calls world path locals l) (λ steps k.
    does (make (put_of v (value_at world.vars v) steps x)) rest locals k))
assigns calls world make (target.Local i path) right rest locals left =
    and_then (value_of calls world right locals left) (λ x l.
    and_then (path_of calls world path locals l) (λ steps k.
    does (deed.SetsLocal i (written steps x (value_at locals i))) rest locals k))
assigns calls world make (target.Slot n slot low width) right rest locals left = goes_on rest locals left

-- ---- loops
-- a loop that goes on after its body: with its step, where it has one, or with its test
abbrev pub goes_round : Tree → Option Act → Act → Work
goes_round test None body = Testing test None body
goes_round test (Some step) body = Stepping test step body

-- one test of a `while` or a `for`; an unknown one ends it (12.7.1, 12.7.4)
abbrev pub tests : Calls → World → Tree → Option Act → Act → List Work → Doing
tests calls world test step body rest locals left =
    and_then (value_of calls world test locals left) (λ t l.
    goes_on (pick (test_of t) (to_do body ++ goes_round test step body ∷ rest) rest rest) locals l)

-- a `repeat` that goes on so often (12.7.2)
abbrev pub counted : ℕ → Act → List Work → List Work
counted zero body rest = rest
counted (suc n) body rest = to_do body ++ Counting n body ∷ rest

-- an index of an array, by how many come after it on the way from the left bound to the right one (7.4.2)
abbrev pub index_before : ℕ → ℕ × ℕ → ℕ
index_before left bounds = if nat_le bounds.0 bounds.1 then bounds.1 - left else bounds.1 + left

abbrev pub size_of : ℕ × ℕ → ℕ
size_of bounds = suc (if nat_le bounds.0 bounds.1 then bounds.1 - bounds.0 else bounds.0 - bounds.1)

-- one test of a `foreach` with so many indices to come: the index takes its next value (12.7.3)
abbrev pub each : ℕ → ℕ × ℕ → ℕ → Act → List Work → Doing
each zero bounds i body rest = goes_on rest
each (suc left) bounds i body rest =
    does (deed.SetsLocal i (int_value (index_before left bounds))) (to_do body ++ Each left bounds i body ∷ rest)

-- a `foreach` over an array; a procedure has no resolver's argument
abbrev pub foreach_begins : Option (ℕ × ℕ) → ℕ → Act → List Work → Doing
foreach_begins None i body rest = goes_on rest
foreach_begins (Some bounds) i body rest = each (size_of bounds) bounds i body rest

-- ---- jumps (12.8)
-- a loop that goes on
abbrev pub is_loop : Work → Bool
is_loop (Do s) = false
is_loop (Testing test step body) = true
is_loop (Stepping test step body) = true
is_loop (Repeating body) = true
is_loop (Counting n body) = true
is_loop (Each left bounds i body) = true
is_loop (Awaiting reads body) = false

-- `continue`: what is left of the body of the innermost loop is given up
abbrev pub after_continue : List Work → List Work
after_continue [] = []
after_continue (i ∷ items) = if is_loop i then i ∷ items else after_continue items

-- `break`: the innermost loop too
abbrev pub after_break : List Work → List Work
after_break [] = []
after_break (i ∷ items) = if is_loop i then items else after_break items

-- ---- branches
-- the branch that there may be
abbrev pub or_no_work : Option Act → List Work
or_no_work None = []
or_no_work (Some act) = to_do act

-- the first arm of a `case` with an item that is the same as the test, or the default (12.5)
abbrev pub arm_of : Calls → World → Value → List (List Tree × Act) → Option Act → List Work → Doing
arm_of calls world test [] other rest locals left = goes_on (or_no_work other ++ rest) locals left
arm_of calls world test (arm ∷ arms) other rest locals left =
    and_then (is_among test (map (value_of calls world) arm.0) locals left) (λ is l.
    if is then goes_on (to_do arm.1 ++ rest) locals l else arm_of calls world test arms other rest locals l)

-- ---- statements
-- One step of a statement, before what is left after it. An event control and a `wait` that isn't true stay at the head
-- while the procedure waits.
abbrev pub statement : Calls → World → Act → List Work → Act-F Act → Doing
statement calls world s rest (Act-F.Null at) locals left = goes_on rest locals left
statement calls world s rest (Act-F.Block acts at) locals left = goes_on (flat_map to_do acts ++ rest) locals left
statement calls world s rest (Act-F.Assign left_side right at) locals left =
    assigns calls world (λ put. deed.Writes put) left_side right rest locals left
statement calls world s rest (Act-F.Nonblocking left_side right at) locals left =
    assigns calls world (λ put. deed.Schedules put) left_side right rest locals left
statement calls world s rest (Act-F.If test first second at) locals left =
    and_then (value_of calls world test locals left) (λ t l.
    goes_on (pick (test_of t) (to_do first ++ rest) (or_no_work second ++ rest) (or_no_work second ++ rest)) locals l)
statement calls world s rest (Act-F.Case test arms other at) locals left =
    and_then (value_of calls world test locals left) (λ t l. arm_of calls world t arms other rest locals l)
statement calls world s rest (Act-F.While test body at) locals left =
    tests calls world test None body rest locals left
statement calls world s rest (Act-F.Repeat count body at) locals left =
    and_then (value_of calls world count locals left) (λ v l.
    goes_on (counted (count_of (number_in v)) body rest) locals l)
statement calls world s rest (Act-F.For fresh left_side first test step body at) locals left =
    assigns calls world (λ put. deed.Writes put) left_side first (Testing test (Some step) body ∷ rest) locals left
statement calls world s rest (Act-F.Forever body at) locals left =
    goes_on (to_do body ++ Repeating body ∷ rest) locals left
statement calls world s rest (Act-F.Foreach bounds i body at) locals left = foreach_begins bounds i body rest locals left
statement calls world s rest (Act-F.Delay amount body at) locals left =
    and_then (value_of calls world amount locals left) (λ v l.
    does (deed.Delays (count_of (number_in v))) (to_do body ++ rest) locals l)
statement calls world s rest (Act-F.Event any on body at) locals left =
    and_then (values_of calls world (event_trees on) locals left) (λ vs l.
    does (deed.Waits vs) (Do s ∷ rest) locals l)
statement calls world s rest (Act-F.Wait test body at) locals left =
    and_then (value_of calls world test locals left) (λ t l.
    pick (test_of t) (goes_on (to_do body ++ rest) locals l) (does (deed.Waits []) (Do s ∷ rest) locals l) (does (deed.Waits []) (Do s ∷ rest) locals l))
statement calls world s rest (Act-F.Return value at) locals left = goes_on rest locals left
statement calls world s rest (Act-F.Break at) locals left = goes_on (after_break rest) locals left
statement calls world s rest (Act-F.Continue at) locals left = goes_on (after_continue rest) locals left
statement calls world s rest (Act-F.Call f args at) locals left =
    and_then (values_of calls world args locals left) (λ vs l.
    and_then (calls f vs l) (λ v k. goes_on rest locals k))
statement calls world s rest (Act-F.Display text args at) locals left =
    and_then (values_of calls world args locals left) (λ vs l.
    does (deed.Displays (line_of text vs)) rest locals l)
statement calls world s rest (Act-F.Finish at) locals left = does deed.Finishes rest locals left

-- one step of a statement
unfoldable pub statement_step : Calls → World → Act → List Work → Doing
statement_step calls world s rest = statement calls world s rest (out-Act s)

-- one step of a procedure with this to do first, and then the rest
unfoldable pub work_step : Calls → World → Work → List Work → Doing
work_step calls world (Do s) rest = statement_step calls world s rest
work_step calls world (Testing test step body) rest = tests calls world test step body rest
work_step calls world (Stepping test step body) rest =
    statement_step calls world step (Testing test (Some step) body ∷ rest)
work_step calls world (Repeating body) rest = goes_on (to_do body ++ Repeating body ∷ rest)
work_step calls world (Counting n body) rest = goes_on (counted n body rest)
work_step calls world (Each left bounds i body) rest = each left bounds i body rest
work_step calls world (Awaiting reads body) rest = does (deed.Waits []) (Awaiting reads body ∷ rest)
