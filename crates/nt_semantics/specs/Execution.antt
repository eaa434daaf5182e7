-- Moves between regions and slots, whole executions, and the lists of entries that stand for them (IEEE 1800-2017, 4.4,
-- 4.5).
use Rattle.std.specs.Prelude.{◌≡◌, ℕ, ◌+◌, ◌≤◌, ◌==◌, nat_lt, nat_le, min, Bool, true, false, not, ◌&&◌, ◌||◌, if◌then◌else◌, List, [], ◌∷◌, ◌++◌, map, get_or, replicate, Option, Some, None, option_and_then, unwrap_or, All}
use Rattle.std.specs.List.{flat_map, list_any}
use Rattle.nt_design.specs.Parts.{Value}
use Rattle.nt_design.specs.Reads.{reads_of}
use Rattle.nt_design.specs.declared.design.Design.{Design}
use Rattle.nt_design.specs.declared.object.Object.TheVariants as object
use Rattle.nt_design.specs.declared.process.Assign.{Assign}
use Rattle.nt_design.specs.declared.target.Target.{Target}
use Rattle.nt_design.specs.declared.target.Target.TheVariants as target
use Rattle.nt_semantics.specs.Same.{is_one_of}
use Rattle.nt_semantics.specs.State.{MachineState, start_state}
use Rattle.nt_semantics.specs.declared.standing.Standing.{Standing}
use Rattle.nt_semantics.specs.declared.standing.Standing.TheVariants.{Ready, Inactive, Later}
use Rattle.nt_semantics.specs.Step.{step, only_if, is_pending, is_pending_at, is_some_put, copies_of}
use Rattle.nt_semantics.specs.declared.event.Event.{Event}
use Rattle.nt_semantics.specs.declared.event.Event.TheVariants.{Stmt, Assign as AssignEvent, Update, Resolve}
use Rattle.nt_semantics.specs.declared.event.Entry.{Entry}
use Rattle.nt_semantics.specs.declared.moved.Moved.{Moved}
use Rattle.nt_semantics.specs.declared.moved.Moved.TheVariants as moves

-- ---- regions
-- whether an event is in Active. A moved update is
unfoldable pub is_active : MachineState → Bool
is_active s =
    list_any (is_pending_at s) s.standings
    || (list_any (nat_lt 0) s.evaluations || (list_any (nat_lt 0) s.resolutions || is_some_put s.moved))

abbrev pub is_inactive : Standing → Bool
is_inactive Inactive = true
is_inactive _ = false

-- whether an event is in Inactive
abbrev pub has_inactive : MachineState → Bool
has_inactive s = list_any is_inactive s.standings

-- whether the slot is over: no event is left in it (4.5)
abbrev pub is_over : MachineState → Bool
is_over s = not (is_active s) && (not (has_inactive s) && not (is_some_put s.nonblocking))

-- ---- moves
-- the Inactive events become active (4.4.2.3)
abbrev pub active_standing : Standing → Standing
active_standing Inactive = Ready
active_standing standing = standing

abbrev pub activate : MachineState → MachineState
activate s = record s { standings = map active_standing s.standings }

-- the nonblocking updates become active, in the order in which their statements were executed (4.4.2.4, 10.4.2)
abbrev pub move_updates : MachineState → MachineState
move_updates s = record s { moved = s.nonblocking; nonblocking = [] }

-- the least moment of those before and that of a place
abbrev pub sooner : Standing → Option ℕ → Option ℕ
sooner (Later at) None = Some at
sooner (Later at) (Some moment) = Some (min at moment)
sooner _ moment = moment

-- the least later moment to which a procedure was delayed
abbrev pub next_moment : List Standing → Option ℕ
next_moment [] = None
next_moment (standing ∷ places) = sooner standing (next_moment places)

abbrev pub standing_in_slot : ℕ → Standing → Standing
standing_in_slot moment (Later at) = if at == moment then Ready else Later at
standing_in_slot moment standing = standing

-- a slot begins: its events are active, and no line is displayed in it yet (4.4)
abbrev pub begin_slot : ℕ → MachineState → MachineState
begin_slot moment s = record s { moment = moment; standings = map (standing_in_slot moment) s.standings; shown = [] }

-- up to the time limit
abbrev pub begin_next : ℕ → MachineState → Option ℕ → Option MachineState
begin_next until s None = None
begin_next until s (Some moment) = if nat_le moment until then Some (begin_slot moment s) else None

-- The one move of a state with nothing in Active: Inactive events become active, else nonblocking updates, else the least
-- later slot up to the time limit begins, unless `$finish` was met (4.5, 20.2).
abbrev pub move : ℕ → MachineState → Option MachineState
move until s =
    if has_inactive s
    then Some (activate s)
    else (if is_some_put s.nonblocking
    then Some (move_updates s)
    else (if s.finished then None else begin_next until s (next_moment s.standings)))

-- a move where one is needed and there is one. After it an event is in Active
unfoldable pub settle : ℕ → MachineState → MachineState
settle until s = if is_active s then s else unwrap_or (move until s) s

-- what a move is called
abbrev pub MovedBy : ℕ → MachineState → Moved → Type 0
MovedBy until s moves.Ready = is_active s ≡ true
MovedBy until s moves.Region = (is_active s ≡ false) × (is_over s ≡ false)
MovedBy until s moves.Slot = (is_over s ≡ true) × (next : MachineState) × (move until s ≡ Some next)
MovedBy until s moves.End = (is_active s ≡ false) × (move until s ≡ None)

-- ---- executions
-- these events one after another, with no move between them
abbrev pub steps : Design → List Event → MachineState → Option MachineState
steps d [] s = Some s
steps d (e ∷ es) s = option_and_then (steps d es) (step d s e)

-- these events one after another, each after the move that it needs; none where one isn't allowed
abbrev pub run : ℕ → Design → List Event → MachineState → Option MachineState
run until d [] s = Some s
run until d (e ∷ es) s = option_and_then (run until d es) (step d (settle until s) e)

-- no event is left in a slot up to the time limit, or `$finish` was met and none is left in its slot
abbrev pub IsComplete : ℕ → MachineState → Type 0
IsComplete until s = is_active (settle until s) ≡ false

-- ---- entries
-- an entry stands for its event, count times in a row
abbrev pub copies : Entry → List Event
copies entry = replicate entry.count entry.event

abbrev pub expansion : List Entry → List Event
expansion entries = flat_map copies entries

-- an assignment to a variable that it reads: a further evaluation may change more
abbrev pub reads_target : Assign → Target → Bool
reads_target assign (target.Var v path) = is_one_of (reads_of assign.right) (object.Var v)
reads_target assign (target.Slot n slot low width) = false
reads_target assign (target.Local i path) = false

abbrev pub reads_own_target : Design → ℕ → Bool
reads_own_target d a = get_or (map (λ (assign : Assign). reads_target assign assign.target) d.assigns) a false

-- an event of which an entry may stand for several: a further copy in a row changes nothing
abbrev pub may_repeat : Design → Event → Bool
may_repeat d (Stmt p) = false
may_repeat d (AssignEvent a) = not (reads_own_target d a)
may_repeat d Update = false
may_repeat d (Resolve n order) = true

-- an entry stands for one event, or for several of an event that may repeat
abbrev pub is_entry : Design → Entry → Bool
is_entry d entry = entry.count == 1 || (nat_lt 1 entry.count && may_repeat d entry.event)

-- the state after an entry, or none where it isn't allowed
abbrev pub enter : Design → MachineState → Entry → Option MachineState
enter d s entry = only_if (is_entry d entry) (steps d (copies entry) s)

-- these entries one after another, with no move between them
abbrev pub enter_all : Design → List Entry → MachineState → Option MachineState
enter_all d [] s = Some s
enter_all d (entry ∷ entries) s = option_and_then (enter_all d entries) (enter d s entry)

-- the entries stand for an execution up to the time limit, which begins at the start and ends in this state
pub record Execution (until : ℕ) (d : Design) (entries : List Entry) (end_state : MachineState) : Type 0 where
  pub counted : All (λ (entry : Entry). is_entry d entry ≡ true) entries
  pub runs : run until d (expansion entries) (start_state d) ≡ Some end_state

-- ---- what is seen
-- what is seen of a slot at its end: its moment, the values of variables and nets, and its displayed lines in order
pub record Observation : Type 0 where
  pub moment : ℕ
  pub vars : List Value
  pub nets : List Value
  pub lines : List (List ℕ)

abbrev pub observation_of : MachineState → Observation
observation_of s = record { moment = s.moment; vars = s.vars; nets = s.nets; lines = map (λ line. line.1) s.shown }

-- the slot of a state, where it has ended
abbrev pub seen : MachineState → List Observation
seen s = if is_over s then observation_of s ∷ [] else []

-- what comes of a state that there may be
abbrev pub if_some : {A : Type 0} → A → (MachineState → A) → Option MachineState → A
if_some other go None = other
if_some other go (Some s) = go s

-- the slots that end in the course of these events, and that of the last state where it is over
abbrev pub ended : ℕ → Design → List Event → MachineState → List Observation
ended until d [] s = seen s
ended until d (e ∷ es) s = seen s ++ if_some [] (ended until d es) (step d (settle until s) e)

-- the slots that a later one followed in the course of these events
abbrev pub followed : ℕ → Design → List Event → MachineState → List Observation
followed until d [] s = []
followed until d (e ∷ es) s = seen s ++ if_some [] (followed until d es) (step d (settle until s) e)

-- the event is in Active, and an evaluation in it takes too many turns
abbrev pub IsTooLong : Design → MachineState → Event → Type 0
IsTooLong d s e = (is_pending d s e ≡ true) × (step d s e ≡ None)

-- ---- limits (own)
-- how many entries a slot may have at the end of a round
abbrev pub most_entries : ℕ
most_entries = 1000000

-- how many entries the slot has in which these entries end, where there were so many before them. An entry after a slot that
-- is over is the first of the next one
abbrev pub entries_in_slot : ℕ → Design → ℕ → List Entry → MachineState → ℕ
entries_in_slot until d before [] s = before
entries_in_slot until d before (entry ∷ entries) s =
    if_some 0 (λ t. entries_in_slot until d (if is_over s then 1 else before + 1) entries t) (run until d (copies entry) s)

-- what a run meets that goes no further: the slot has so many entries, or this is too long
pub data Limit : Type 0 where
  Entries : (count : ℕ) → Limit
  Turns : (entry : Entry) → Limit

-- the limit is met where these entries have led to this state
abbrev pub IsMet : ℕ → Design → List Entry → MachineState → Limit → Type 0
IsMet until d entries s (Entries count) =
    (count ≡ entries_in_slot until d 0 entries (start_state d)) × (most_entries ≤ count)
IsMet until d entries s (Turns entry) = IsTooLong d (settle until s) entry.event × (entry.count ≡ copies_of (settle until s) entry.event)
