-- What one event does (IEEE 1800-2017, 4.5 to 4.9, 6.6.7, 10.3).
use Rattle.std.specs.Prelude.{ℕ, zero, suc, ◌+◌, ◌==◌, nat_lt, Bool, true, false, not, ◌&&◌, ◌||◌, if◌then◌else◌, List, [], ◌∷◌, ◌++◌, length, map, get_or, slice_get, slice_set, Option, Some, None, option_and_then, pos}
use Rattle.std.specs.List.{list_any}
use Rattle.nt_value.specs.Operators.{wire_of}
use Rattle.nt_value.specs.Values.{default_value}
use Rattle.nt_value.specs.declared.leaf.Leaf.{Leaf}
use Rattle.nt_design.specs.Expressions.{value_of}
use Rattle.nt_design.specs.Meaning.{most_turns}
use Rattle.nt_design.specs.Parts.{Value, only, one, with_part}
use Rattle.nt_design.specs.Turns.{Timed}
use Rattle.nt_design.specs.declared.design.Design.{Design}
use Rattle.nt_design.specs.declared.object.Net.{Net}
use Rattle.nt_design.specs.declared.object.NetKind.{NetKind}
use Rattle.nt_design.specs.declared.object.NetKind.TheVariants.{Wire, Unresolved, Resolved}
use Rattle.nt_design.specs.declared.object.Object.TheVariants as object
use Rattle.nt_design.specs.declared.process.Assign.{Assign}
use Rattle.nt_design.specs.declared.target.Target.{Target}
use Rattle.nt_design.specs.declared.target.Target.TheVariants as target
use Rattle.nt_design.specs.Puts.{after_put, leaves_put}
use Rattle.nt_semantics.specs.Same.{is_same, is_listed}
use Rattle.nt_semantics.specs.State.{MachineState, going_on, standing_at, work_at, locals_at, count_at, value_at, net_shape, more, fewer, world_of_state, z_value}
use Rattle.nt_semantics.specs.declared.standing.Standing.{Standing}
use Rattle.nt_semantics.specs.declared.standing.Standing.TheVariants.{Unbegun, Ready, Inactive, Later, Waits, Over}
use Rattle.nt_semantics.specs.declared.work.Work.{Work}
use Rattle.nt_semantics.specs.Statements.{work_step}
use Rattle.nt_semantics.specs.Wake.{wake, functions_of}
use Rattle.nt_design.specs.declared.put.Put.{Put}
use Rattle.nt_semantics.specs.declared.deed.Deed.{Deed}
use Rattle.nt_semantics.specs.declared.deed.Deed.TheVariants as deed
use Rattle.nt_semantics.specs.declared.event.Event.{Event}
use Rattle.nt_semantics.specs.declared.event.Event.TheVariants.{Stmt, Assign as AssignEvent, Update, Resolve}

-- an option where a test holds, and none elsewhere
abbrev pub only_if : {A : Type 0} → Bool → Option A → Option A
only_if true o = o
only_if false o = None

-- what came out, without the turns that are left
abbrev pub in_turns : {A B : Type 0} → (A → B) → Timed A → Option B
in_turns f None = None
in_turns f (Some p) = Some (f p.0)

-- ---- writes
-- a variable takes a write, and where it changes it wakes
unfoldable pub put_var : Design → Put → MachineState → MachineState
put_var d put s =
    let old = value_at s.vars put.var in
    let new = after_put put old in
    wake d (object.Var put.var) (not (is_same old new)) (record s { vars = slice_set s.vars put.var new })

-- a net takes a value, and where it changes it wakes
unfoldable pub set_net : Design → ℕ → Value → MachineState → MachineState
set_net d n new s =
    wake d (object.Net n) (not (is_same (value_at s.nets n) new)) (record s { nets = slice_set s.nets n new })

-- ---- statements
-- the first step of an `always_comb` is in Active once every other procedure has done a step (9.2.2.2)
abbrev pub may_begin : MachineState → Bool
may_begin s = not (list_any (λ fresh. fresh) s.fresh)

-- a procedure that is here has a step in Active
abbrev pub is_pending_at : MachineState → Standing → Bool
is_pending_at s Unbegun = may_begin s
is_pending_at s Ready = true
is_pending_at s Inactive = false
is_pending_at s (Later at) = false
is_pending_at s (Waits kept) = false
is_pending_at s Over = false

-- where a procedure is after a deed: a delay of 0 leads into the Inactive region (4.4.2.3), and one of more into a later
-- slot (9.4.1)
abbrev pub standing_after_deed : ℕ → Deed → List Work → Standing
standing_after_deed moment (deed.Delays zero) items = Inactive
standing_after_deed moment (deed.Delays (suc n)) items = Later (moment + suc n)
standing_after_deed moment (deed.Waits kept) items = Waits kept
standing_after_deed moment _ items = going_on items

abbrev pub locals_after : Deed → List Value → List Value
locals_after (deed.SetsLocal i value) locals = slice_set locals i value
locals_after _ locals = locals

abbrev pub updates_of : Deed → List Put
updates_of (deed.Schedules put) = put ∷ []
updates_of _ = []

abbrev pub lines_shown : ℕ → Deed → List (ℕ × List ℕ)
lines_shown p (deed.Displays line) = (p, line) ∷ []
lines_shown p _ = []

abbrev pub finishes : Deed → Bool
finishes deed.Finishes = true
finishes _ = false

-- a blocking assignment writes at once (10.4.1)
abbrev pub do_deed : Design → Deed → MachineState → MachineState
do_deed d (deed.Writes put) s = put_var d put s
do_deed d _ s = s

-- a procedure has made a step: its own columns, what the step leaves to come, and then its write
unfoldable pub make_step : Design → ℕ → MachineState → Deed × List Work → MachineState
make_step d p s step = do_deed d step.0 (record s {
  standings = slice_set s.standings p (standing_after_deed s.moment step.0 step.1);
  work = slice_set s.work p step.1;
  locals = slice_set s.locals p (locals_after step.0 (locals_at s p));
  fresh = slice_set s.fresh p false;
  nonblocking = s.nonblocking ++ updates_of step.0;
  shown = s.shown ++ lines_shown p step.0;
  finished = s.finished || finishes step.0;
})

abbrev pub proc_step : Design → ℕ → MachineState → List Work → Option MachineState
proc_step d p s [] = None
proc_step d p s (i ∷ rest) =
    in_turns (make_step d p s) (work_step (functions_of d) (world_of_state s) i rest (locals_at s p) most_turns)

-- ---- assignments
-- what a driver contributes to a net of this shape: its value, or where it drives a part its value there and z elsewhere
-- (that it is z elsewhere is this project's rule)
abbrev pub contribution : List Leaf → ℕ → ℕ → Value → Value
contribution shape low zero value = value
contribution shape low (suc n) value = one (with_part (Some (pos low)) (only value) (only (z_value shape)))

-- A driver's slot takes its value, and where it changes the net is to be resolved once more. A variable takes it and wakes
-- where it changes (10.3.2).
abbrev pub drive : Design → ℕ → Value → MachineState → Target → MachineState
drive d a value s (target.Slot n slot low width) =
    let new = contribution (net_shape d n) low width value in
    record s {
      slots = slice_set s.slots a new;
      resolutions = if is_same (value_at s.slots a) new then s.resolutions else more s.resolutions n;
    }
drive d a value s (target.Var v path) = put_var d (leaves_put v 0 value) s
drive d a value s (target.Local i path) = s

-- one evaluation leaves Active
abbrev pub take_evaluation : ℕ → MachineState → MachineState
take_evaluation a s = record s { evaluations = fewer 1 s.evaluations a }

abbrev pub assign_step : Design → ℕ → MachineState → Assign → Option MachineState
assign_step d a s assign =
    in_turns (λ value. drive d a value (take_evaluation a s) assign.target)
    (value_of (functions_of d) (world_of_state s) assign.right [] most_turns)

-- ---- updates
-- the first moved update is performed (4.9.4)
abbrev pub update_step : Design → MachineState → List Put → Option MachineState
update_step d s [] = None
update_step d s (put ∷ puts) = Some (put_var d put (record s { moved = puts }))

-- ---- resolutions
-- no two are equal
abbrev pub is_distinct : List ℕ → Bool
is_distinct [] = true
is_distinct (x ∷ xs) = not (is_listed x xs) && is_distinct xs

abbrev pub all_below : ℕ → List ℕ → Bool
all_below n [] = true
all_below n (x ∷ xs) = nat_lt x n && all_below n xs

-- a permutation of the numbers below n: n of them, each below n, and no two equal
abbrev pub is_order : ℕ → List ℕ → Bool
is_order n order = (length order == n) && all_below n order && is_distinct order

-- the values of a net's slots in this order, of which each has the number of its assignment
abbrev pub in_order : List Value → List ℕ → List ℕ → List Value
in_order slots drivers order = map (λ slot. value_at slots (get_or drivers slot 0)) order

-- drivers of a built-in net, joined digit by digit from z (6.6.1)
abbrev pub joined_wires : List Leaf → List Value → Value
joined_wires shape [] = z_value shape
joined_wires shape (value ∷ values) = one (wire_of (only (joined_wires shape values)) (only value))

-- The value of a net from those of its drivers in an order. A resolution function is called with them (6.6.7); without one
-- it is the one driver's value, or the data type's default where there is no driver.
abbrev pub net_value : Design → NetKind → List Leaf → List Value → Option Value
net_value d Wire shape values = Some (joined_wires shape values)
net_value d Unresolved shape [] = Some (default_value shape)
net_value d Unresolved shape (value ∷ values) = Some value
net_value d (Resolved f) shape values = in_turns (λ value. value) (functions_of d f values most_turns)

-- one resolution leaves Active
abbrev pub take_resolution : ℕ → MachineState → MachineState
take_resolution n s = record s { resolutions = fewer 1 s.resolutions n }

abbrev pub resolve_step : Design → ℕ → List ℕ → MachineState → Net → Option MachineState
resolve_step d n order s net =
    only_if (is_order (length net.slots) order)
    (option_and_then (λ value. Some (set_net d n value (take_resolution n s))) (net_value d net.kind net.shape (in_order s.slots net.slots order)))

-- ---- the step
-- The state after one event, or none where the event isn't allowed: it has to be in Active, a resolution names an order of
-- its net's slots, and no evaluation is too long. Active events are taken in any order (4.7).
unfoldable pub step : Design → MachineState → Event → Option MachineState
step d s (Stmt p) = only_if (is_pending_at s (standing_at s p)) (proc_step d p s (work_at s p))
step d s (AssignEvent a) =
    only_if (nat_lt 0 (count_at s.evaluations a)) (option_and_then (assign_step d a s) (slice_get d.assigns a))
step d s Update = update_step d s s.moved
step d s (Resolve n order) =
    only_if (nat_lt 0 (count_at s.resolutions n)) (option_and_then (resolve_step d n order s) (slice_get d.nets n))

-- whether these are the slots of the net, in an order
abbrev pub is_order_of : Option Net → List ℕ → Bool
is_order_of None order = false
is_order_of (Some net) order = is_order (length net.slots) order

abbrev pub is_some_put : List Put → Bool
is_some_put [] = false
is_some_put (put ∷ puts) = true

abbrev pub is_some_work : List Work → Bool
is_some_work [] = false
is_some_work (i ∷ items) = true

-- whether the event is in Active, and the order of a resolution is one of its net's slots
unfoldable pub is_pending : Design → MachineState → Event → Bool
is_pending d s (Stmt p) = is_pending_at s (standing_at s p) && is_some_work (work_at s p)
is_pending d s (AssignEvent a) = nat_lt 0 (count_at s.evaluations a) && nat_lt a (length d.assigns)
is_pending d s Update = is_some_put s.moved
is_pending d s (Resolve n order) = nat_lt 0 (count_at s.resolutions n) && is_order_of (slice_get d.nets n) order

-- how many copies of an event are in Active, whatever order a resolution names
abbrev pub copies_of : MachineState → Event → ℕ
copies_of s (Stmt p) = if is_pending_at s (standing_at s p) then 1 else 0
copies_of s (AssignEvent a) = count_at s.evaluations a
copies_of s Update = length s.moved
copies_of s (Resolve n order) = count_at s.resolutions n
