-- Laws of the definitions, each a statement for a function without a body to promise.
use Rattle.std.specs.Prelude.{◌≡◌, ◌↔◌, ◌⊎◌, ◌<◌, ◌≤◌, ◌^◌, ◌++◌, ℕ, true, false, List, [], ◌∷◌, length, slice_get, Some, None, All}
use Rattle.std.specs.List.{range_with_len}
use Rattle.std.specs.List.Sorted.{IsPermutation}
use Rattle.nt_design.specs.WellFormed.{IsDesign}
use Rattle.nt_design.specs.declared.design.Design.{Design}
use Rattle.nt_design.specs.declared.object.Net.{Net}
use Rattle.nt_semantics.specs.Execution.{Execution, enter_all, is_active, is_over, move, may_repeat, steps, run, expansion, ended, followed, seen}
use Rattle.nt_semantics.specs.ReadyLists.{IsOther, Listed, OneListed, RoundFits, Shows, StandsOn, Tied}
use Rattle.nt_semantics.specs.Groups.{processes}
use Rattle.nt_semantics.specs.Rounds.{Away, RoundState, arrival, declared_order, phase, round, RoundEnd, next_region, next_slot, none_away, start_rounds}
use Rattle.nt_semantics.specs.declared.process.Process.{Process}
use Rattle.nt_semantics.specs.Slots.{Few, Went}
use Rattle.nt_semantics.specs.State.{MachineState, start_state, standing_at, fewer}
use Rattle.nt_semantics.specs.StateFits.{IsStateOf}
use Rattle.nt_semantics.specs.Step.{step, all_below, is_pending, is_order, copies_of}
use Rattle.nt_semantics.specs.Texts.{IsWritten, witness_text}
use Rattle.nt_semantics.specs.declared.event.Entry.{Entry}
use Rattle.nt_semantics.specs.declared.event.Event.{Event}
use Rattle.nt_semantics.specs.declared.event.Event.TheVariants.{Stmt, Assign as AssignEvent, Update, Resolve}

-- the orders of n slots are the permutations of the numbers below n
abbrev pub OrdersArePermutations : Type 0
OrdersArePermutations = (n : ℕ) (order : List ℕ) → (is_order n order ≡ true) ↔ IsPermutation (range_with_len 0 n) order

-- the start state is one of its design
abbrev pub StartFits : Type 0
StartFits = (d : Design) → IsDesign d → IsStateOf d (start_state d)

-- a step keeps a state of a design
abbrev pub StepKeeps : Type 0
StepKeeps = (d : Design) (s t : MachineState) (e : Event) → IsDesign d → IsStateOf d s → step d s e ≡ Some t → IsStateOf d t

-- a move up to a time limit of at most 2^48 keeps a state of a design
abbrev pub MoveKeeps : Type 0
MoveKeeps =
    (until : ℕ) (d : Design) (s t : MachineState) → until ≤ 2 ^ 48 → IsDesign d → IsStateOf d s → is_active s ≡ false → move until s ≡ Some t → IsStateOf d t

-- an execution up to a time limit of at most 2^48 ends in a state of its design
abbrev pub ExecutionFits : Type 0
ExecutionFits =
    (until : ℕ) (d : Design) (entries : List Entry) (s : MachineState) → until ≤ 2 ^ 48 → IsDesign d → Execution until d entries s → IsStateOf d s

-- one move makes Active not empty, whether it stays in the slot or begins a later one
abbrev pub MoveFills : Type 0
MoveFills =
    (until : ℕ) (s t : MachineState) → move until s ≡ Some t → is_active t ≡ true

-- a move begins a slot only where the slot before is over, and then a later one
abbrev pub MoveStays : Type 0
MoveStays =
    (until : ℕ) (d : Design) (s t : MachineState) → IsStateOf d s → is_active s ≡ false → move until s ≡ Some t → ((is_over s ≡ false) × (t.moment ≡ s.moment)) ⊎ ((is_over s ≡ true) × (s.moment < t.moment))

-- an event that isn't pending has no step
abbrev pub OnlyPending : Type 0
OnlyPending = (d : Design) (s : MachineState) (e : Event) → is_pending d s e ≡ false → step d s e ≡ None

-- one copy of an event fewer in Active, and all else as it was
abbrev pub without : MachineState → Event → MachineState
without s (AssignEvent a) = record s { evaluations = fewer 1 s.evaluations a }
without s (Resolve n order) = record s { resolutions = fewer 1 s.resolutions n }
without s (Stmt p) = s
without s Update = s

-- A further copy of an event that may repeat, right after it, is allowed and changes nothing but the number of its copies. So
-- an entry may stand for several (4.7 leaves their order free).
abbrev pub AgainChangesNothing : Type 0
AgainChangesNothing =
    (d : Design) (s t : MachineState) (e : Event) → IsDesign d → IsStateOf d s → may_repeat d e ≡ true → step d s e ≡ Some t → 0 < copies_of t e → step d t e ≡ Some (without t e)

-- Entries that are allowed one after another go on within a slot: they are events of it, the moment stays, and each adds at
-- most one copy of an event.
abbrev pub EntriesGo : Type 0
EntriesGo =
    (d : Design) (entries : List Entry) (s t : MachineState) → IsDesign d → IsStateOf d s → enter_all d entries s ≡ Some t → Went d s entries None t

-- ---- rounds
-- the entries of a round are allowed one after another, from its start to its end
abbrev pub RoundEnters : Type 0
RoundEnters =
    (d : Design) (groups : List (List Process)) (orders : ℕ → List ℕ) (r : RoundState) → enter_all d (round d groups orders r).entries r.state ≡ Some (round d groups orders r).after.state

-- the entries of a round are steps from its start to its end, with no move between them
abbrev pub RoundLeads : Type 0
RoundLeads =
    (d : Design) (groups : List (List Process)) (orders : ℕ → List ℕ) (r : RoundState) → steps d (expansion (round d groups orders r).entries) r.state ≡ Some (round d groups orders r).after.state

-- after an event of another a procedure stands where it stood, or it waited, and is ready or waits on
abbrev pub OthersWakeTheWaiting : Type 0
OthersWakeTheWaiting =
    (d : Design) (s t : MachineState) (e : Event) (p : ℕ) → IsOther p e → step d s e ≡ Some t → StandsOn (standing_at s p) (standing_at t p)

-- phase Evaluate of one group leaves a right list
abbrev pub PhaseKeepsLists : Type 0
PhaseKeepsLists =
    (n : ℕ) (d : Design) (s : MachineState) (xs : List Process) (away : Away) → Listed d s xs → Listed d (phase n d s xs away).state (phase n d s xs away).ready

-- a round with one group keeps its ready list right
abbrev pub RoundKeepsLists : Type 0
RoundKeepsLists =
    (d : Design) (orders : ℕ → List ℕ) (r : RoundState) → OneListed d r.state r.ready → OneListed d (round d (processes d ∷ []) orders r).after.state (round d (processes d ∷ []) orders r).after.ready

-- a round of a state with something in Active, after the first, has an entry, or an event that is too long
abbrev pub RoundShows : Type 0
RoundShows =
    (d : Design) (orders : ℕ → List ℕ) (r : RoundState) → RoundFits d r → r.begun ≡ true → is_active r.state ≡ true → Shows (round d (processes d ∷ []) orders r)

-- a round with one group keeps what is right between rounds
abbrev pub RoundKeepsFits : Type 0
RoundKeepsFits =
    (d : Design) (orders : ℕ → List ℕ) (r : RoundState) → IsDesign d → RoundFits d r → RoundFits d (round d (processes d ∷ []) orders r).after

-- what is right between rounds is so at the start
abbrev pub RoundsStartFit : Type 0
RoundsStartFit = (d : Design) → IsDesign d → RoundFits d (start_rounds d (processes d ∷ []))

-- each of these orders is one of its net's slots
abbrev pub AreOrders : Design → (ℕ → List ℕ) → Type 0
AreOrders d orders = (n : ℕ) (net : Net) → slice_get d.nets n ≡ Some net → is_order (length net.slots) (orders n) ≡ true

abbrev pub DeclaredAreOrders : Type 0
DeclaredAreOrders = (d : Design) → AreOrders d (declared_order d)

-- so is what the marks of a net's slots give
abbrev pub ArrivalsAreOrders : Type 0
ArrivalsAreOrders =
    (d : Design) (n : ℕ) (net : Net) (slots : List ℕ) → slice_get d.nets n ≡ Some net → all_below (length net.slots) slots ≡ true → is_order (length net.slots) (arrival d n slots) ≡ true

-- the entries of a round with one group lead within a slot from its start to its end, and what stops it is too long there
abbrev pub RoundGoes : Type 0
RoundGoes =
    (d : Design) (orders : ℕ → List ℕ) (r : RoundState) → IsDesign d → AreOrders d orders → RoundFits d r → Went d r.state (round d (processes d ∷ []) orders r).entries (round d (processes d ∷ []) orders r).too_long (round d (processes d ∷ []) orders r).after.state

-- so do the next region and the next slot
abbrev pub RegionKeepsFits : Type 0
RegionKeepsFits =
    (d : Design) (r : RoundState) (e : RoundEnd) → IsDesign d → RoundFits d r → Tied r.state r.away → next_region d (processes d ∷ []) r ≡ Some e → RoundFits d e.after

abbrev pub SlotKeepsFits : Type 0
SlotKeepsFits =
    (until : ℕ) (d : Design) (r : RoundState) (e : RoundEnd) → until ≤ 2 ^ 48 → RoundFits d r → Tied r.state r.away → next_slot until (processes d ∷ []) r ≡ Some e → RoundFits d e.after

-- the next region leads within a slot to where it says
abbrev pub RegionGoes : Type 0
RegionGoes =
    (d : Design) (r : RoundState) (e : RoundEnd) → RoundFits d r → is_active r.state ≡ false → next_region d (processes d ∷ []) r ≡ Some e → Went d r.state e.entries e.too_long e.after.state

-- the next slot begins by the one move of a slot that is over
abbrev pub SlotGoes : Type 0
SlotGoes =
    (until : ℕ) (groups : List (List Process)) (r : RoundState) (e : RoundEnd) → is_over r.state ≡ true → next_slot until groups r ≡ Some e → (e.entries ≡ []) × ((e.too_long ≡ None) × (move until r.state ≡ Some e.after.state))

-- at the start no procedure was put away
abbrev pub RoundsStartTied : Type 0
RoundsStartTied = (d : Design) → Tied (start_state d) none_away

-- rounds keep the procedures that were put away on their lists, and so do the next region and the next slot
abbrev pub RoundKeepsTied : Type 0
RoundKeepsTied =
    (d : Design) (groups : List (List Process)) (orders : ℕ → List ℕ) (r : RoundState) → Tied r.state r.away → Tied (round d groups orders r).after.state (round d groups orders r).after.away

abbrev pub RegionKeepsTied : Type 0
RegionKeepsTied =
    (d : Design) (groups : List (List Process)) (r : RoundState) (e : RoundEnd) → Tied r.state r.away → next_region d groups r ≡ Some e → Tied e.after.state e.after.away

abbrev pub SlotKeepsTied : Type 0
SlotKeepsTied =
    (until : ℕ) (groups : List (List Process)) (r : RoundState) (e : RoundEnd) → Tied r.state r.away → next_slot until groups r ≡ Some e → Tied e.after.state e.after.away

-- ---- slots
-- only a state with something in Active has a step
abbrev pub OnlyActive : Type 0
OnlyActive = (d : Design) (s t : MachineState) (e : Event) → step d s e ≡ Some t → is_active s ≡ true

-- a slot that begins is at most at the time limit, and no event has more than one copy in it
abbrev pub SlotsBeginSmall : Type 0
SlotsBeginSmall =
    (until : ℕ) (s t : MachineState) → is_over s ≡ true → move until s ≡ Some t → (t.moment ≤ until) × Few 1 t

-- ---- what is seen
-- the slots that have ended are those that a later one followed, and that of the last state where it is over
abbrev pub EndedIsFollowed : Type 0
EndedIsFollowed =
    (until : ℕ) (d : Design) (es : List Event) (s t : MachineState) → run until d es s ≡ Some t → ended until d es s ≡ followed until d es s ++ seen t

-- ---- texts
-- a witness is the text of one list of entries
abbrev pub WitnessIsOne : Type 0
WitnessIsOne =
    (es fs : List Entry) → All IsWritten es → All IsWritten fs → witness_text es ≡ witness_text fs → es ≡ fs
