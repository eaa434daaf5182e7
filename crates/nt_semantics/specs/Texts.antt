-- Texts of executions, which are this project's own. A witness lists entries, a trace what is seen of each slot.
use Rattle.std.specs.Prelude.{◌≡◌, ℕ, ◌<◌, ◌≤◌, ◌^◌, All, Bool, not, List, [], ◌∷◌, ◌++◌, map, filter, get_or, codes, decimal, Option, Some, None, if◌then◌else◌}
use Rattle.std.specs.List.{flat_map}
use Rattle.nt_value.specs.Texts.{value_text}
use Rattle.nt_design.specs.Parts.{Value}
use Rattle.nt_design.specs.WellFormed.{named_objects}
use Rattle.nt_design.specs.declared.design.Design.{Design}
use Rattle.nt_design.specs.declared.object.Net.{Net}
use Rattle.nt_design.specs.declared.object.Var.{Var}
use Rattle.nt_design.specs.declared.object.Object.{Object}
use Rattle.nt_design.specs.declared.object.Object.TheVariants.{Net as NetObject, Var as VarObject}
use Rattle.nt_semantics.specs.Same.{is_same, is_same_object}
use Rattle.nt_semantics.specs.State.{value_at}
use Rattle.nt_semantics.specs.Execution.{Observation, Limit, Entries, Turns}
use Rattle.nt_semantics.specs.declared.event.Event.{Event}
use Rattle.nt_semantics.specs.declared.event.Event.TheVariants.{Stmt, Assign as AssignEvent, Update, Resolve}
use Rattle.nt_semantics.specs.declared.event.Entry.{Entry}

-- ---- witness
-- each slot number after a blank
abbrev pub order_text : List ℕ → List ℕ
order_text order = flat_map (λ slot. 32 ∷ decimal slot) order

-- `s PROCEDURE`, `a ASSIGNMENT COUNT`, `u`, or `r NET COUNT` and the order
abbrev pub event_line : Event → ℕ → List ℕ
event_line (Stmt p) count = codes "s " ++ (decimal p ++ (10 ∷ []))
event_line (AssignEvent a) count = codes "a " ++ (decimal a ++ (32 ∷ (decimal count ++ (10 ∷ []))))
event_line Update count = codes "u\n"
event_line (Resolve n order) count = codes "r " ++ (decimal n ++ (32 ∷ (decimal count ++ (order_text order ++ (10 ∷ [])))))

abbrev pub entry_line : Entry → List ℕ
entry_line entry = event_line entry.event entry.count

abbrev pub entry_lines : List Entry → List ℕ
entry_lines entries = flat_map entry_line entries

-- What a line can tell of an entry: numbers of procedures, assignments, nets and slots are below 2^32, and a count is at least
-- 1 and below 2^64. A line without a count stands for one event.
abbrev pub IsCount : ℕ → Type 0
IsCount count = (1 ≤ count) × (count < 2 ^ 64)

abbrev pub IsWrittenAs : Event → ℕ → Type 0
IsWrittenAs (Stmt p) count = (p < 2 ^ 32) × (count ≡ 1)
IsWrittenAs (AssignEvent a) count = (a < 2 ^ 32) × IsCount count
IsWrittenAs Update count = count ≡ 1
IsWrittenAs (Resolve n order) count = (n < 2 ^ 32) × (All (λ slot. slot < 2 ^ 32) order × IsCount count)

abbrev pub IsWritten : Entry → Type 0
IsWritten entry = IsWrittenAs entry.event entry.count

abbrev pub witness_head : List ℕ
witness_head = codes "nettype-witness 1\n"

abbrev pub witness_end : List ℕ
witness_end = codes "end\n"

-- the first line, a line for each entry, and the last line
abbrev pub witness_text : List Entry → List ℕ
witness_text entries = witness_head ++ (entry_lines entries ++ witness_end)

-- ---- what a trace shows
-- each object once, where it stands first
abbrev pub first_of_each : List Object → List Object
first_of_each [] = []
first_of_each (o ∷ objects) = o ∷ filter (λ p. not (is_same_object o p)) (first_of_each objects)

-- the variables and nets in the order of elaboration, which is that of their names in the design's scopes. A net that has
-- several names stands at its first one
abbrev pub objects_of : Design → List Object
objects_of d = first_of_each (named_objects d)

-- the path of an object
abbrev pub path_of : Design → Object → List ℕ
path_of d (NetObject n) = get_or (map (λ (net : Net). net.name) d.nets) n []
path_of d (VarObject v) = get_or (map (λ (var : Var). var.name) d.vars) v []

-- the value that is seen of an object
abbrev pub value_seen : Observation → Object → Value
value_seen seen (NetObject n) = value_at seen.nets n
value_seen seen (VarObject v) = value_at seen.vars v

-- `PATH = VALUE`
abbrev pub object_line : Design → Observation → Object → List ℕ
object_line d seen o = path_of d o ++ (codes " = " ++ (value_text (value_seen seen o) ++ (10 ∷ [])))

-- an object has another value than in the slot before
abbrev pub is_changed : Observation → Observation → Object → Bool
is_changed before seen o = not (is_same (value_seen before o) (value_seen seen o))

-- the first slot shows all objects, a later one those that changed
abbrev pub shown_objects : Design → Option Observation → Observation → List Object
shown_objects d None seen = objects_of d
shown_objects d (Some before) seen = filter (is_changed before seen) (objects_of d)

-- `| ` and a displayed line
abbrev pub displayed_line : List ℕ → List ℕ
displayed_line line = codes "| " ++ (line ++ (10 ∷ []))

-- ---- trace
-- a slot: `#` and its moment, its displayed lines, and its objects
abbrev pub slot_text : Design → Option Observation → Observation → List ℕ
slot_text d before seen =
    35 ∷ (decimal seen.moment ++ (10 ∷ (flat_map displayed_line seen.lines ++ flat_map (object_line d seen) (shown_objects d before seen))))

abbrev pub slots_text : Design → Option Observation → List Observation → List ℕ
slots_text d before [] = []
slots_text d before (seen ∷ slots) = slot_text d before seen ++ slots_text d (Some seen) slots

-- the end of a run at the time limit, or in the slot where `$finish` was met
abbrev pub end_text : ℕ → List ℕ
end_text until = codes "end " ++ (decimal until ++ (10 ∷ []))

abbrev pub finish_text : ℕ → List ℕ
finish_text moment = codes "finish " ++ (decimal moment ++ (10 ∷ []))

-- the moment of the last of these slots, which come after one at this moment
abbrev pub last_moment : ℕ → List Observation → ℕ
last_moment moment [] = moment
last_moment moment (seen ∷ slots) = last_moment seen.moment slots

abbrev pub last_text : ℕ → List Observation → Bool → List ℕ
last_text until slots finished = if finished then finish_text (last_moment 0 slots) else end_text until

-- each slot that has ended, and the end: at this time limit, or where `$finish` was met
abbrev pub trace_text : Design → ℕ → List Observation → Bool → List ℕ
trace_text d until slots finished = slots_text d None slots ++ last_text until slots finished

-- the end of a run that met a limit in the slot of this moment: `step limit #` and the moment, and how many entries the slot
-- has; `turn limit #` and the moment, and the line of the entry that is too long
abbrev pub limit_text : ℕ → Limit → List ℕ
limit_text moment (Entries count) = codes "step limit #" ++ (decimal moment ++ (32 ∷ (decimal count ++ (10 ∷ []))))
limit_text moment (Turns entry) = codes "turn limit #" ++ (decimal moment ++ (32 ∷ entry_line entry))
