-- Rounds: the order in which a run takes events (this project's own; any order of Active events is allowed, IEEE
-- 1800-2017, 4.7).
use Rattle.std.specs.Prelude.{◌≡◌, ℕ, zero, suc, ◌==◌, nat_lt, Bool, true, false, not, ◌&&◌, ◌||◌, if◌then◌else◌, List, [], ◌∷◌, ◌++◌, length, map, filter, get_or, is_some, Option, Some, None}
use Rattle.std.specs.List.{flat_map, range_with_len}
use Rattle.nt_design.specs.declared.design.Design.{Design}
use Rattle.nt_design.specs.declared.object.Net.{Net}
use Rattle.nt_design.specs.declared.process.Assign.{Assign}
use Rattle.nt_design.specs.declared.process.Proc.{Proc}
use Rattle.nt_design.specs.declared.target.Target.{Target}
use Rattle.nt_design.specs.declared.target.Target.TheVariants as target
use Rattle.nt_semantics.specs.Execution.{if_some, enter, is_active, has_inactive, activate, move_updates, next_moment, begin_next, reads_own_target}
use Rattle.nt_semantics.specs.Groups.{processes, is_among}
use Rattle.nt_semantics.specs.Same.{is_same, is_listed}
use Rattle.nt_semantics.specs.State.{MachineState, is_comb, start_state, standing_at, value_at, count_at, fewer}
use Rattle.nt_semantics.specs.declared.standing.Standing.{Standing}
use Rattle.nt_semantics.specs.declared.standing.Standing.TheVariants.{Ready, Inactive, Later, Waits}
use Rattle.nt_semantics.specs.Step.{step, may_begin, is_some_put}
use Rattle.nt_design.specs.declared.put.Put.{Put}
use Rattle.nt_semantics.specs.declared.event.Event.{Event}
use Rattle.nt_semantics.specs.declared.event.Event.TheVariants.{Stmt, Assign as AssignEvent, Update, Resolve}
use Rattle.nt_semantics.specs.declared.event.Entry.{Entry}
use Rattle.nt_semantics.specs.declared.process.Process.{Process}
use Rattle.nt_semantics.specs.declared.process.Process.TheVariants.{Procedure, Assignment}

-- ---- ready lists
-- a process has an event in Active. An `always_comb` before its first step is put on its list by the round
abbrev pub stands_ready : Standing → Bool
stands_ready Ready = true
stands_ready _ = false

abbrev pub is_ready : MachineState → Process → Bool
is_ready s (Procedure p) = stands_ready (standing_at s p)
is_ready s (Assignment a) = nat_lt 0 (count_at s.evaluations a)

abbrev pub is_waiting : Standing → Bool
is_waiting (Waits kept) = true
is_waiting _ = false

-- a process was woken between two states
abbrev pub is_woken : MachineState → MachineState → Process → Bool
is_woken s t (Procedure p) = is_waiting (standing_at s p) && stands_ready (standing_at t p)
is_woken s t (Assignment a) = nat_lt (count_at s.evaluations a) (count_at t.evaluations a)

-- all that were, by number
abbrev pub woken : Design → MachineState → MachineState → List Process
woken d s t = filter (is_woken s t) (processes d)

-- a list with those that aren't on it appended
abbrev pub with_new : List Process → List Process → List Process
with_new xs ys = xs ++ filter (λ y. not (is_among xs y)) ys

-- ---- one entry
-- a step of a procedure, or all pending evaluations of an assignment, but only one where it reads what it writes
abbrev pub entry_of : Design → MachineState → Process → Entry
entry_of d s (Procedure p) = record { event = Stmt p; count = 1 }
entry_of d s (Assignment a) =
    record { event = AssignEvent a; count = if reads_own_target d a then 1 else count_at s.evaluations a }

-- a state without the evaluations for which an entry stands
abbrev pub without_evaluations : MachineState → Process → ℕ → MachineState
without_evaluations s (Procedure p) k = s
without_evaluations s (Assignment a) k = record s { evaluations = fewer k s.evaluations a }

-- The rest of a ready list after an entry that led from s to t: the woken processes by number, of which those on the list
-- stay where they are, and then the entry's own process where it still has an event in Active.
abbrev pub next_ready : Design → MachineState → MachineState → Process → List Process → List Process
next_ready d s t x xs =
    with_new (with_new xs (woken d (without_evaluations s x (entry_of d s x).count) t)) (filter (is_ready t) (x ∷ []))

-- the procedures that moves bring back, each list in the order in which they were put away: those in Inactive, and those of
-- each later moment, by ascending moments
pub record Away : Type 0 where
  pub inactive : List ℕ
  pub later : List (ℕ × List ℕ)

abbrev pub none_away : Away
none_away = record { inactive = []; later = [] }

-- a procedure more at a moment
abbrev pub with_later : ℕ → ℕ → List (ℕ × List ℕ) → List (ℕ × List ℕ)
with_later at p [] = (at, p ∷ []) ∷ []
with_later at p (slot ∷ later) =
    if at == slot.0
    then (at, slot.1 ++ p ∷ []) ∷ later
    else (if nat_lt at slot.0 then (at, p ∷ []) ∷ slot ∷ later else slot ∷ with_later at p later)

abbrev pub put_away : ℕ → Standing → Away → Away
put_away p Inactive away = record away { inactive = away.inactive ++ p ∷ [] }
put_away p (Later at) away = record away { later = with_later at p away.later }
put_away p _ away = away

-- what is put away after an entry of this process
abbrev pub away_after : MachineState → Process → Away → Away
away_after t (Procedure p) away = put_away p (standing_at t p) away
away_after t (Assignment a) away = away

-- a mark says that an assignment changed a slot of a net
pub record Mark : Type 0 where
  pub net : ℕ
  pub slot : ℕ

abbrev pub target_marks : Target → List Mark
target_marks (target.Var v path) = []
target_marks (target.Slot n slot low width) = record { net = n; slot = slot } ∷ []
target_marks (target.Local i path) = []

-- the marks of an entry that led from s to t
abbrev pub marks_of : Design → MachineState → MachineState → Process → List Mark
marks_of d s t (Procedure p) = []
marks_of d s t (Assignment a) =
    if is_same (value_at s.slots a) (value_at t.slots a)
    then []
    else get_or (map (λ (assign : Assign). target_marks assign.target) d.assigns) a []

-- ---- a group's part of phase Evaluate
-- how it ends: its list is empty, it has taken as many entries as it may, or its next event is too long
pub data Ended : Type 0 where
  Idle : Ended
  Quantum : Ended
  TooLong : (event : Event) → Ended

pub record PhaseEnd : Type 0 where
  pub state : MachineState
  pub ready : List Process
  pub away : Away
  pub marks : List Mark
  pub entries : List Entry
  pub how : Ended

abbrev pub stops : MachineState → List Process → Away → Ended → PhaseEnd
stops s xs away how = record { state = s; ready = xs; away = away; marks = []; entries = []; how = how }

abbrev pub and_before : Entry → List Mark → PhaseEnd → PhaseEnd
and_before entry marks r = record r { entries = entry ∷ r.entries; marks = marks ++ r.marks }

-- a ready list, first in, first out, for at most n entries
unfoldable pub phase : ℕ → Design → MachineState → List Process → Away → PhaseEnd
phase n d s [] away = stops s [] away Idle
phase zero d s (x ∷ xs) away = stops s (x ∷ xs) away Quantum
phase (suc n) d s (x ∷ xs) away =
    if_some (stops s (x ∷ xs) away (TooLong (entry_of d s x).event))
    (λ t. and_before (entry_of d s x) (marks_of d s t x) (phase n d t (next_ready d s t x xs) (away_after t x away)))
    (enter d s (entry_of d s x))

-- the entries that a group takes in one round
abbrev pub quantum : ℕ
quantum = 1024

-- ---- phase Evaluate
-- The groups one after the other. Nothing that one does is read by another, so that they may as well run side by side.
pub record EvaluateEnd : Type 0 where
  pub state : MachineState
  pub ready : List (List Process)
  pub away : Away
  pub marks : List (List Mark)
  pub entries : List Entry
  pub too_long : Option Event

abbrev pub too_long_of : Ended → Option Event → Option Event
too_long_of Idle later = later
too_long_of Quantum later = later
too_long_of (TooLong event) later = Some event

abbrev pub phase_then : PhaseEnd → EvaluateEnd → EvaluateEnd
phase_then e r = record r {
  ready = e.ready ∷ r.ready;
  marks = e.marks ∷ r.marks;
  entries = e.entries ++ r.entries;
  too_long = too_long_of e.how r.too_long;
}

abbrev pub evaluate : Design → MachineState → List (List Process) → Away → EvaluateEnd
evaluate d s [] away = record { state = s; ready = []; away = away; marks = []; entries = []; too_long = None }
evaluate d s (xs ∷ xss) away =
    let e = phase quantum d s xs away in
    phase_then e (evaluate d e.state xss e.away)

-- ---- phase Resolve
-- processes appended to the ready lists of their groups
abbrev pub with_woken : List (List Process) → List Process → List (List Process) → List (List Process)
with_woken [] ys ready = []
with_woken (group ∷ groups) ys [] = []
with_woken (group ∷ groups) ys (xs ∷ xss) = with_new xs (filter (is_among group) ys) ∷ with_woken groups ys xss

pub record ResolveEnd : Type 0 where
  pub state : MachineState
  pub ready : List (List Process)
  pub entries : List Entry
  pub too_long : Option Event

abbrev pub with_entry : Entry → ResolveEnd → ResolveEnd
with_entry entry r = record r { entries = entry ∷ r.entries }

-- all pending resolutions of a net, in an order
abbrev pub net_entry : MachineState → ℕ → List ℕ → Entry
net_entry s n order = record { event = Resolve n order; count = count_at s.resolutions n }

-- Each of these nets with a pending resolution, once, with all that are pending as one entry, in the order that is told. It
-- stops where one is too long. The processes that a publication wakes are appended by number.
abbrev pub resolve_nets : Design → List (List Process) → (ℕ → List ℕ) → List ℕ → MachineState → List (List Process) → ResolveEnd
resolve_nets d groups orders [] s ready = record { state = s; ready = ready; entries = []; too_long = None }
resolve_nets d groups orders (n ∷ nets) s ready =
    if count_at s.resolutions n == 0
    then resolve_nets d groups orders nets s ready
    else if_some (record { state = s; ready = ready; entries = []; too_long = Some (Resolve n (orders n)) })
    (λ t. with_entry (net_entry s n (orders n)) (resolve_nets d groups orders nets t (with_woken groups (woken d s t) ready)))
    (enter d s (net_entry s n (orders n)))

-- ---- rounds
-- what a run in rounds has at the end of a round: the state, the ready lists of the groups, the procedures that moves
-- bring back, and whether a round was made
pub record RoundState : Type 0 where
  pub state : MachineState
  pub ready : List (List Process)
  pub away : Away
  pub begun : Bool

pub record RoundEnd : Type 0 where
  pub after : RoundState
  pub entries : List Entry
  pub too_long : Option Event

-- the start: in each group the procedures but for `always_comb`, and then the assignments
abbrev pub start_rounds : Design → List (List Process) → RoundState
start_rounds d groups =
    record { state = start_state d; ready = map (filter (is_ready (start_state d))) groups; away = none_away; begun = false }

-- the `always_comb` procedures
abbrev pub combs : Design → List Process
combs d =
    map (λ p. Procedure p)
    (filter (λ p. get_or (map (λ (proc : Proc). is_comb proc.kind) d.procs) p false) (range_with_len 0 (length d.procs)))

-- Each `always_comb` is appended at the end of the first round at which every other procedure has done a step.
abbrev pub combs_after : Design → RoundState → MachineState → List Process
combs_after d r t = if may_begin t && not (r.begun && may_begin r.state) then combs d else []

-- after phase Evaluate nets are resolved, unless an event was too long
abbrev pub resolve_after : Design → List (List Process) → (ℕ → List ℕ) → EvaluateEnd → ResolveEnd
resolve_after d groups orders e =
    resolve_nets d groups orders (if is_some e.too_long then [] else range_with_len 0 (length d.nets)) e.state e.ready

abbrev pub first_of : Option Event → Option Event → Option Event
first_of None other = other
first_of (Some event) other = Some event

-- one round, with the order that is told for each net
unfoldable pub round : Design → List (List Process) → (ℕ → List ℕ) → RoundState → RoundEnd
round d groups orders r =
    let e = evaluate d r.state r.ready r.away in
    let p = resolve_after d groups orders e in
    record {
      after = record {
        state = p.state;
        ready = with_woken groups (combs_after d r p.state) p.ready;
        away = e.away;
        begun = true;
      };
      entries = e.entries ++ p.entries;
      too_long = first_of e.too_long p.too_long;
    }

-- ---- orders
-- how many slots a net has
abbrev pub slots_of : Design → ℕ → ℕ
slots_of d n = get_or (map (λ (net : Net). length net.slots) d.nets) n 0

-- declared order: ascending slot numbers
abbrev pub declared_order : Design → ℕ → List ℕ
declared_order d n = range_with_len 0 (slots_of d n)

-- each number where it stands last
abbrev pub last_of_each : List ℕ → List ℕ
last_of_each [] = []
last_of_each (slot ∷ slots) = if is_listed slot slots then last_of_each slots else slot ∷ last_of_each slots

-- the slots of a net that are marked, by the marks in the order of their ranks
abbrev pub marked_slots : ℕ → List Mark → List ℕ
marked_slots n marks = map (λ (m : Mark). m.slot) (filter (λ (m : Mark). m.net == n) marks)

-- arrival order: the slots without a mark in this round by number, and then the marked ones by the last rank of each; the
-- marked slots are told in the order of their ranks
abbrev pub arrival : Design → ℕ → List ℕ → List ℕ
arrival d n slots = filter (λ slot. not (is_listed slot slots)) (declared_order d n) ++ last_of_each slots

-- the third list holds the items of the first two, each list's in their own order
pub data Mixed {E : Type 0} : List E → List E → List E → Type 0 where
  Neither : Mixed [] [] []
  One : {e : E} {es fs gs : List E} → Mixed es fs gs → Mixed (e ∷ es) fs (e ∷ gs)
  Other : {f : E} {es fs gs : List E} → Mixed es fs gs → Mixed es (f ∷ fs) (f ∷ gs)

-- a list holds the items of all these lists, each list's in their own order
abbrev pub Interleaved : {E : Type 0} → List (List E) → List E → Type 0
Interleaved [] gs = gs ≡ []
Interleaved {E} (es ∷ ess) gs = (fs : List E) × (Interleaved ess fs × Mixed es fs gs)

-- this order of a net is of some arrival of the marks on it that these lists hold, made side by side
abbrev pub ArrivesAs : Design → List (List Mark) → ℕ → List ℕ → Type 0
ArrivesAs d marks n order =
    (slots : List ℕ) × (Interleaved (map (marked_slots n) marks) slots × (order ≡ arrival d n slots))

-- these orders are of arrivals of the marks that a round's groups made, net by net: of marks on two nets no one says which
-- came first
abbrev pub IsArrival : Design → RoundState → (ℕ → List ℕ) → Type 0
IsArrival d r orders = (n : ℕ) → ArrivesAs d (evaluate d r.state r.ready r.away).marks n (orders n)

-- ---- between rounds
-- these procedures are appended to the ready lists of their groups
abbrev pub bring_back : List (List Process) → List ℕ → RoundState → RoundState
bring_back groups procs r = record r { ready = with_woken groups (map (λ p. Procedure p) procs) r.ready }

-- what a run in rounds has after the Inactive events became active
abbrev pub after_activation : List (List Process) → RoundState → RoundState
after_activation groups r =
    bring_back groups r.away.inactive (record r { state = activate r.state; away = record r.away { inactive = [] } })

-- the procedures of a moment, and those of the other moments
abbrev pub procs_at : ℕ → List (ℕ × List ℕ) → List ℕ
procs_at moment later = flat_map (λ slot. if slot.0 == moment then slot.1 else []) later

abbrev pub without_moment : ℕ → List (ℕ × List ℕ) → List (ℕ × List ℕ)
without_moment moment later = filter (λ slot. not (slot.0 == moment)) later

-- what a run in rounds has after a slot began in this state
abbrev pub after_begin : List (List Process) → RoundState → MachineState → RoundState
after_begin groups r s =
    bring_back groups (procs_at s.moment r.away.later) (record r { state = s; away = record r.away { later = without_moment s.moment r.away.later } })

-- the moved updates one after another, with what each wakes appended by number
abbrev pub perform : Design → List (List Process) → List Put → RoundState → RoundState
perform d groups [] r = r
perform d groups (put ∷ puts) r =
    if_some r
    (λ t. perform d groups puts (record r { state = t; ready = with_woken groups (woken d r.state t) r.ready }))
    (step d r.state Update)

abbrev pub update_entry : Entry
update_entry = record { event = Update; count = 1 }

-- all nonblocking updates as a round of their own
abbrev pub update_round : Design → List (List Process) → RoundState → RoundEnd
update_round d groups r = record {
  after = perform d groups r.state.nonblocking (record r { state = move_updates r.state });
  entries = map (λ put. update_entry) r.state.nonblocking;
  too_long = None;
}

abbrev pub without_entries : RoundState → RoundEnd
without_entries r = record { after = r; entries = []; too_long = None }

-- the next region of the slot, where nothing is in Active
unfoldable pub next_region : Design → List (List Process) → RoundState → Option RoundEnd
next_region d groups r =
    if has_inactive r.state
    then Some (without_entries (after_activation groups r))
    else (if is_some_put r.state.nonblocking then Some (update_round d groups r) else None)

-- the next slot up to the time limit, where the slot is over
unfoldable pub next_slot : ℕ → List (List Process) → RoundState → Option RoundEnd
next_slot until groups r =
    if r.state.finished
    then None
    else if_some None (λ s. Some (without_entries (after_begin groups r s)))
    (begin_next until r.state (next_moment r.state.standings))

abbrev pub or_else : {A : Type 0} → Option A → Option A → Option A
or_else None other = other
or_else (Some a) other = Some a

-- what comes next in a run in rounds: a round where an event is in Active, and at the start in any case; else the next
-- region; else the next slot; else nothing
unfoldable pub next : ℕ → Design → List (List Process) → (ℕ → List ℕ) → RoundState → Option RoundEnd
next until d groups orders r =
    if is_active r.state || not r.begun
    then Some (round d groups orders r)
    else or_else (next_region d groups r) (next_slot until groups r)

abbrev pub on_some : {A B : Type 0} → B → (A → B) → Option A → B
on_some other go None = other
on_some other go (Some a) = go a

-- so many things in a row, in declared order: the entries, and what there is after them; it stops at an event too long
abbrev pub goes_after : (RoundState → RoundEnd) → RoundEnd → RoundEnd
goes_after go e =
    if is_some e.too_long
    then e
    else (let f = go e.after in record f { entries = e.entries ++ f.entries })

abbrev pub declared_run : ℕ → ℕ → Design → List (List Process) → RoundState → RoundEnd
declared_run zero until d groups r = without_entries r
declared_run (suc n) until d groups r =
    on_some (without_entries r) (goes_after (declared_run n until d groups)) (next until d groups (declared_order d) r)
