-- What wakes on a change of an object (IEEE 1800-2017, 4.3, 9.4.2).
use Rattle.std.specs.Prelude.{ℕ, suc, Bool, true, false, not, ◌||◌, if◌then◌else◌, List, [], ◌∷◌, ◌++◌, length, map, get_or, Some, None}
use Rattle.std.specs.List.{flat_map}
use Rattle.nt_value.specs.declared.digit.Digit.{Digit}
use Rattle.nt_value.specs.declared.digit.Digit.TheVariants.{Zero, One, X, Z}
use Rattle.nt_design.specs.Expressions.{World, Calls, values_of}
use Rattle.nt_design.specs.Meaning.{calls_to, most_turns}
use Rattle.nt_design.specs.Parts.{Value, only}
use Rattle.nt_design.specs.Reads.{event_trees, reads_of, act_reads}
use Rattle.nt_design.specs.Turns.{Timed}
use Rattle.nt_design.specs.declared.act.Act.{Act, out-Act}
use Rattle.nt_design.specs.declared.act.Act.TheOpen.{Act-F}
use Rattle.nt_design.specs.declared.design.Design.{Design}
use Rattle.nt_value.specs.declared.kind.Edge.{Edge}
use Rattle.nt_value.specs.declared.kind.Edge.TheVariants.{Any, Pos, Neg}
use Rattle.nt_design.specs.declared.object.Object.{Object}
use Rattle.nt_design.specs.declared.process.Assign.{Assign}
use Rattle.nt_design.specs.declared.tree.Tree.{Tree}
use Rattle.nt_semantics.specs.Same.{is_same, is_one_of}
use Rattle.nt_semantics.specs.State.{MachineState, to_do, standing_at, work_at, locals_at, count_at, each_below, world_of_state}
use Rattle.nt_semantics.specs.declared.standing.Standing.{Standing}
use Rattle.nt_semantics.specs.declared.standing.Standing.TheVariants.{Ready, Waits}
use Rattle.nt_semantics.specs.declared.work.Work.{Work}
use Rattle.nt_semantics.specs.declared.work.Work.TheVariants.{Do, Awaiting}

-- ---- edges (9.4.2, Table 9-2)
-- from 0 to 1, x or z, or from x or z to 1
abbrev pub is_posedge : Digit → Digit → Bool
is_posedge Zero One = true
is_posedge Zero X = true
is_posedge Zero Z = true
is_posedge X One = true
is_posedge Z One = true
is_posedge _ _ = false

-- from 1 to 0, x or z, or from x or z to 0
abbrev pub is_negedge : Digit → Digit → Bool
is_negedge One Zero = true
is_negedge One X = true
is_negedge One Z = true
is_negedge X Zero = true
is_negedge Z Zero = true
is_negedge _ _ = false

-- the least significant digit decides
abbrev pub lowest : Value → Digit
lowest value = get_or (only value).digits 0 X

-- a change of an event expression from the kept value to a new one is awaited
abbrev pub matches : Edge → Value → Value → Bool
matches Any kept new = not (is_same kept new)
matches Pos kept new = is_posedge (lowest kept) (lowest new)
matches Neg kept new = is_negedge (lowest kept) (lowest new)

-- one of several changes is awaited
abbrev pub some_match : List (Edge × Tree) → List Value → List Value → Bool
some_match [] kept new = false
some_match (e ∷ on) [] new = false
some_match (e ∷ on) (k ∷ kept) [] = false
some_match (e ∷ on) (k ∷ kept) (n ∷ new) = matches e.0 k n || some_match on kept new

-- ---- one procedure that waits
-- what a change does to a waiting procedure: nothing, it keeps other values, or it wakes and has this to do
pub data Waking : Type 0 where
  Asleep : Waking
  Keeps : (kept : List Value) → Waking
  Wakes : (items : List Work) → Waking

abbrev pub wakes_if : Bool → List Work → Waking
wakes_if true items = Wakes items
wakes_if false items = Asleep

-- an event control with the values that its expressions have now: where a change is awaited its statement is next, and
-- else these values are kept
abbrev pub tested : List (Edge × Tree) → List Value → List Work → Timed (List Value) → Waking
tested on kept items None = Asleep
tested on kept items (Some new) = if some_match on kept new.0 then Wakes items else Keeps new.0

abbrev pub tested_if : Bool → Waking → Waking
tested_if true waking = waking
tested_if false waking = Asleep

-- a change of an object, for a statement at the head: an event control is tested where it reads the object; `@*` goes on
-- after a change of what its statement reads (9.4.2.2), and a `wait` is then to be tested again (9.4.3)
abbrev pub statement_wakes : Calls → World → Object → List Value → Act → List Work → List Value → Act-F Act → Waking
statement_wakes calls world o kept s rest locals (Act-F.Event true on body at) =
    wakes_if (is_one_of (act_reads body) o) (to_do body ++ rest)
statement_wakes calls world o kept s rest locals (Act-F.Event false on body at) =
    tested_if (is_one_of (flat_map reads_of (event_trees on)) o)
    (tested on kept (to_do body ++ rest) (values_of calls world (event_trees on) locals most_turns))
statement_wakes calls world o kept s rest locals (Act-F.Wait test body at) =
    wakes_if (is_one_of (reads_of test) o) (Do s ∷ rest)
statement_wakes calls world o kept s rest locals _ = Asleep

-- an `always_comb` does its body again (9.2.2.2.1)
abbrev pub work_wakes : Calls → World → Object → List Value → List Work → List Value → Waking
work_wakes calls world o kept (Do s ∷ rest) locals = statement_wakes calls world o kept s rest locals (out-Act s)
work_wakes calls world o kept (Awaiting reads body ∷ rest) locals =
    wakes_if (is_one_of reads o) (to_do body ++ Awaiting reads body ∷ rest)
work_wakes calls world o kept _ locals = Asleep

-- a change of an object, for a procedure: nothing where it doesn't wait
abbrev pub waking : Calls → World → Object → Standing → List Work → List Value → Waking
waking calls world o (Waits kept) items locals = work_wakes calls world o kept items locals
waking calls world o _ items locals = Asleep

abbrev pub standing_after : Standing → Waking → Standing
standing_after standing Asleep = standing
standing_after standing (Keeps kept) = Waits kept
standing_after standing (Wakes items) = Ready

abbrev pub work_after : List Work → Waking → List Work
work_after items Asleep = items
work_after items (Keeps kept) = items
work_after items (Wakes new) = new

-- ---- all that wakes
-- what functions give, within the turns of an event
abbrev pub functions_of : Design → Calls
functions_of d = calls_to d.functions most_turns

-- what a change of an object does to a procedure in a state that has its new value
abbrev pub waking_at : Design → Object → MachineState → ℕ → Waking
waking_at d o s p = waking (functions_of d) (world_of_state s) o (standing_at s p) (work_at s p) (locals_at s p)

-- an assignment reads the object
abbrev pub reads_at : Design → Object → ℕ → Bool
reads_at d o a = is_one_of (get_or (map (λ (assign : Assign). assign.reads) d.assigns) a []) o

abbrev pub one_more_if : Bool → ℕ → ℕ
one_more_if true n = suc n
one_more_if false n = n

-- An object that has changed wakes: each procedure that waits for it is ready, or keeps new values, and each assignment
-- that reads it is to be evaluated once more.
unfoldable pub wake : Design → Object → Bool → MachineState → MachineState
wake d o changed s = record s {
  standings = if changed then each_below (length s.standings) (λ p. standing_after (standing_at s p) (waking_at d o s p)) else s.standings;
  work = if changed then each_below (length s.work) (λ p. work_after (work_at s p) (waking_at d o s p)) else s.work;
  evaluations = if changed then each_below (length s.evaluations) (λ a. one_more_if (reads_at d o a) (count_at s.evaluations a)) else s.evaluations;
}
