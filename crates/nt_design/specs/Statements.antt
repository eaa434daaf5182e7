-- What a statement of a function does to the function's locals (IEEE 1800-2017, clauses 10, 12 and 13.4).
use Rattle.std.specs.Prelude.{ℕ, zero, suc, ◌-◌, nat_le, Bool, true, false, if◌then◌else◌, List, [], ◌∷◌, map, Option, Some, None, get_or, slice_set, length, ℤ, pos, negsuc}
use Rattle.nt_value.specs.Operators.{one_digit}
use Rattle.nt_value.specs.declared.digit.Digit.TheVariants.{One}
use Rattle.nt_design.specs.Parts.{Value, one, test_of, number_in, int_value, is_same_value, position_of, written, Step, IntoLeaves, IntoItem, IntoPart}
use Rattle.nt_design.specs.Turns.{Timing, and_then, spend, pick, all_of, by_one}
use Rattle.nt_design.specs.Expressions.{World, Calls, value_of, values_of}
use Rattle.nt_design.specs.declared.tree.Tree.{Tree}
use Rattle.nt_design.specs.declared.target.Pick.{Pick}
use Rattle.nt_design.specs.declared.target.Pick.TheVariants.{Leaves, Item, Part}
use Rattle.nt_design.specs.declared.target.Target.{Target}
use Rattle.nt_design.specs.declared.target.Target.TheVariants.{Var, Slot, Local}
use Rattle.nt_design.specs.declared.act.Act.{Act}
use Rattle.nt_design.specs.declared.act.Act.TheOpen.{Act-F}
use Rattle.nt_design.specs.declared.act.Act.TheFolds.{fold-Act}
use Rattle.nt_design.specs.declared.act.Flow.{Flow}
use Rattle.nt_design.specs.declared.act.Flow.TheVariants.{Next, Broke, Continued, Returned}

-- what a statement does: the locals after it, and where it leaves off
abbrev pub Doing : Type 0
Doing = Timing (List Value × Flow)

-- nothing, and the next statement follows (12.3)
abbrev pub nothing : Doing
nothing locals left = Some ((locals, Next), left)

-- what follows a statement, where the next one does
abbrev pub on_next : Flow → Doing → Doing
on_next Next go locals left = go locals left
on_next Broke go locals left = Some ((locals, Broke), left)
on_next Continued go locals left = Some ((locals, Continued), left)
on_next Returned go locals left = Some ((locals, Returned), left)

-- one statement, and then another
abbrev pub one_then : Doing → Doing → Doing
one_then first second locals left = and_then (first locals left) (λ e l. on_next e.1 second e.0 l)

-- statements in order (9.3.1)
abbrev pub block : List Doing → Doing
block [] locals left = nothing locals left
block (d ∷ ds) locals left = one_then d (block ds) locals left

-- ---- assignments
-- a step of a path, with its index or base evaluated
abbrev pub step_of : Calls → World → Pick → Timing Step
step_of calls world (Leaves first count) locals left = Some (IntoLeaves first count, left)
step_of calls world (Item index low size up) locals left =
    by_one (λ i. IntoItem (position_of low size up (number_in i)) size) (value_of calls world index) locals left
step_of calls world (Part low width) locals left =
    by_one (λ i. IntoPart (number_in i) width) (value_of calls world low) locals left

-- a path, its steps evaluated in order
abbrev pub path_of : Calls → World → List Pick → Timing (List Step)
path_of calls world path = all_of (map (step_of calls world) path)

-- a local takes a value at the end of a path (10.4.1)
abbrev pub set_local : ℕ → List Step → Value → List Value → List Value
set_local i path value locals = slice_set locals i (written path value (get_or locals i []))

-- a blocking assignment: the right side, then the path of the left one (10.4.1). A function writes its locals alone
abbrev pub assign : Calls → World → Target → Tree → Doing
assign calls world (Local i path) right locals left =
    and_then (value_of calls world right locals left) (λ v l.
    by_one (λ steps. (set_local i steps v locals, Next)) (path_of calls world path) locals l)
assign calls world (Var v path) right locals left = nothing locals left
assign calls world (Slot net slot low width) right locals left = nothing locals left

-- ---- loops
-- after a loop's body: what goes on, or what follows the loop (12.8)
abbrev pub after_body : Flow → Doing → Doing
after_body Next go locals left = go locals left
after_body Continued go locals left = go locals left
after_body Broke go locals left = Some ((locals, Next), left)
after_body Returned go locals left = Some ((locals, Returned), left)

-- one iteration: a turn, the body, and what goes on
abbrev pub iterate : Doing → Doing → Doing
iterate body go locals left = spend left (λ l. and_then (body locals l) (λ e k. after_body e.1 go e.0 k))

-- a loop with a test and a step, of fewer than n iterations: an unknown test ends it (12.7.1, 12.7.4)
unfoldable pub loop_of : ℕ → Timing Value → Doing → Doing → Doing
loop_of zero test step body locals left = None
loop_of (suc n) test step body locals left =
    and_then (test locals left) (λ t l.
    pick (test_of t) (iterate body (one_then step (loop_of n test step body)) locals l) (nothing locals l) (nothing locals l))

-- a loop that its turns end
unfoldable pub loop : Timing Value → Doing → Doing → Doing
loop test step body locals left = loop_of (suc left) test step body locals left

-- so many iterations (12.7.2)
unfoldable pub repeat_of : ℕ → Doing → Doing
repeat_of zero body locals left = nothing locals left
repeat_of (suc n) body locals left = iterate body (repeat_of n body) locals left

-- the count of a `repeat`: 0 where it has x or z (12.7.2), or is below 0, which is this project's rule
abbrev pub count_of : Option ℤ → ℕ
count_of None = 0
count_of (Some (pos n)) = n
count_of (Some (negsuc n)) = 0

-- an iteration for each index in order, which a local holds (12.7.3)
unfoldable pub each_of : List ℕ → ℕ → Doing → Doing
each_of [] i body locals left = nothing locals left
each_of (index ∷ indices) i body locals left =
    iterate body (each_of indices i body) (slice_set locals i (int_value index)) left

-- so many numbers from one on, upwards and downwards
abbrev pub upwards : ℕ → ℕ → List ℕ
upwards from zero = []
upwards from (suc n) = from ∷ upwards (suc from) n

abbrev pub downwards : ℕ → ℕ → List ℕ
downwards from zero = []
downwards from (suc n) = from ∷ downwards (from - 1) n

-- the indices of an array, from the left bound to the right one, or those of a resolver's argument (7.4.2, 12.7.3)
abbrev pub indices_of : ℕ → Option (ℕ × ℕ) → List ℕ
indices_of elements None = upwards 0 elements
indices_of elements (Some bounds) =
    if nat_le bounds.0 bounds.1
    then upwards bounds.0 (suc (bounds.1 - bounds.0))
    else downwards bounds.0 (suc (bounds.0 - bounds.1))

-- a test that is always true (12.7.6)
abbrev pub always : Timing Value
always locals left = Some (one (one_digit false One), left)

-- ---- branches
-- the branch that there may be
abbrev pub or_nothing : Option Doing → Doing
or_nothing None locals left = nothing locals left
or_nothing (Some d) locals left = d locals left

-- whether one of a case's items is the same as its test: items in order, up to the first that is (12.5)
unfoldable pub is_among : Value → List (Timing Value) → Timing Bool
is_among test [] locals left = Some (false, left)
is_among test (item ∷ items) locals left =
    and_then (item locals left) (λ v l. if is_same_value test v then Some (true, l) else is_among test items locals l)

-- the first arm with such an item, or the default (12.5)
unfoldable pub first_arm : Calls → World → Value → List (List Tree × Doing) → Doing → Doing
first_arm calls world test [] other locals left = other locals left
first_arm calls world test (arm ∷ arms) other locals left =
    and_then (is_among test (map (value_of calls world) arm.0) locals left) (λ is l.
    if is then arm.1 locals l else first_arm calls world test arms other locals l)

-- a function's name, whose local this is, takes a value; one without leaves goes nowhere
abbrev pub set_name : ℕ → Value → List Value → List Value
set_name name [] locals = locals
set_name name (leaf ∷ leaves) locals = slice_set locals name (leaf ∷ leaves)

-- the value that a function returns goes to its name (13.4.1)
abbrev pub return_of : Calls → World → ℕ → Option Tree → Doing
return_of calls world name None locals left = Some ((locals, Returned), left)
return_of calls world name (Some value) locals left =
    by_one (λ v. (set_name name v locals, Returned)) (value_of calls world value) locals left

-- what a statement does, from what its parts do. Statements that no function has do nothing
abbrev pub act_step : Calls → World → ℕ → Act-F Doing → Doing
act_step calls world name (Act-F.Null at) locals left = nothing locals left
act_step calls world name (Act-F.Block items at) locals left = block items locals left
act_step calls world name (Act-F.Assign target right at) locals left = assign calls world target right locals left
act_step calls world name (Act-F.Nonblocking target right at) locals left = nothing locals left
act_step calls world name (Act-F.If test first second at) locals left =
    and_then (value_of calls world test locals left) (λ t l.
    pick (test_of t) (first locals l) (or_nothing second locals l) (or_nothing second locals l))
act_step calls world name (Act-F.Case test arms other at) locals left =
    and_then (value_of calls world test locals left) (λ t l.
    first_arm calls world t arms (or_nothing other) locals l)
act_step calls world name (Act-F.While test body at) locals left =
    loop (value_of calls world test) nothing body locals left
act_step calls world name (Act-F.Repeat count body at) locals left =
    and_then (value_of calls world count locals left) (λ v l. repeat_of (count_of (number_in v)) body locals l)
act_step calls world name (Act-F.For fresh target first test step body at) locals left =
    one_then (assign calls world target first) (loop (value_of calls world test) step body) locals left
act_step calls world name (Act-F.Forever body at) locals left = loop always nothing body locals left
act_step calls world name (Act-F.Foreach bounds i body at) locals left =
    each_of (indices_of (length world.many) bounds) i body locals left
act_step calls world name (Act-F.Delay amount body at) locals left = nothing locals left
act_step calls world name (Act-F.Event any on body at) locals left = nothing locals left
act_step calls world name (Act-F.Wait test body at) locals left = nothing locals left
act_step calls world name (Act-F.Return value at) locals left = return_of calls world name value locals left
act_step calls world name (Act-F.Break at) locals left = Some ((locals, Broke), left)
act_step calls world name (Act-F.Continue at) locals left = Some ((locals, Continued), left)
act_step calls world name (Act-F.Call f args at) locals left =
    and_then (values_of calls world args locals left) (λ vs l. and_then (calls f vs l) (λ v k. nothing locals k))
act_step calls world name (Act-F.Display text args at) locals left = nothing locals left
act_step calls world name (Act-F.Finish at) locals left = nothing locals left

-- what a statement of a function does
unfoldable pub does : Calls → World → ℕ → Act → Doing
does calls world name = fold-Act Doing (act_step calls world name)

-- what statements do in order
abbrev pub do_all : Calls → World → ℕ → List Act → Doing
do_all calls world name acts = block (map (does calls world name) acts)
