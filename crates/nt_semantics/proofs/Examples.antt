-- Runs of small designs, computed by the definitions.
use Rattle.std.proofs.Common.{◌≡◌, ℕ, List, [], ◌∷◌, refl, ap, ◌∙◌}
use Rattle.std.specs.Prelude.{Bool, true, false, Some}
use Rattle.nt_value.specs.declared.place.Place.{Place as TextPlace}
use Rattle.nt_value.specs.declared.unit.Base.TheVariants.{Ns}
use Rattle.nt_design.proofs.Values.{value_const, value_read}
use Rattle.nt_design.specs.Expressions.{World, Calls}
use Rattle.nt_design.specs.Meaning.{most_turns}
use Rattle.nt_design.specs.Parts.{Value, int_leaf, int_value}
use Rattle.nt_design.specs.declared.act.Act as act
use Rattle.nt_design.specs.declared.act.Act.{Act}
use Rattle.nt_design.specs.declared.act.Act.TheViews as view
use Rattle.nt_design.specs.declared.design.Design.{Design}
use Rattle.nt_value.specs.declared.kind.ProcKind.TheVariants.{Initial}
use Rattle.nt_design.specs.declared.object.Var.{Var}
use Rattle.nt_design.specs.declared.object.Object.TheVariants as object
use Rattle.nt_design.specs.declared.process.Proc.{Proc}
use Rattle.nt_design.specs.declared.target.Target.TheVariants as target
use Rattle.nt_design.specs.declared.tree.Tree as tree
use Rattle.nt_design.specs.declared.tree.Tree.{Tree}
use Rattle.nt_semantics.proofs.Equations.{to_do_block, to_do_nonblocking, to_do_assign, to_do_delay, step_assign, step_nonblocking, step_delay, proc_steps}
use Rattle.nt_semantics.specs.Execution.{run, settle, is_active, IsComplete, expansion}
use Rattle.nt_design.specs.Puts.{after_put, leaves_put}
use Rattle.nt_semantics.specs.Same.{is_same}
use Rattle.nt_semantics.specs.State.{MachineState, start_state, value_at, world_of_state}
use Rattle.nt_semantics.specs.declared.standing.Standing.{Standing}
use Rattle.nt_semantics.specs.declared.standing.Standing.TheVariants.{Ready, Inactive, Over}
use Rattle.nt_semantics.specs.declared.work.Work.{Work}
use Rattle.nt_semantics.specs.declared.work.Work.TheVariants.{Do}
use Rattle.nt_semantics.specs.Statements.{work_step}
use Rattle.nt_semantics.specs.Step.{step, make_step, put_var}
use Rattle.nt_semantics.specs.Wake.{wake, functions_of}
use Rattle.nt_design.specs.declared.put.Put.{Put}
use Rattle.nt_semantics.specs.declared.deed.Deed.TheVariants as deed
use Rattle.nt_semantics.specs.declared.event.Event.{Event}
use Rattle.nt_semantics.specs.declared.event.Event.TheVariants.{Stmt, Update}
use Rattle.nt_semantics.specs.declared.event.Entry.{Entry}

-- ---- designs
abbrev pub here : TextPlace
here = record { file = 0; offset = 0; line = 1; column = 1 }

-- `int` that begins at 0
abbrev pub int_var : Var
int_var = record { name = []; shape = int_leaf ∷ []; start = int_value 0; at = here }

abbrev pub initial : Act → Proc
initial body = record { kind = Initial; body = body; reads = []; locals = []; at = here }

-- variables, and one procedure
abbrev with_initial : List Var → Act → Design
with_initial vars body = record {
  nets = [];
  vars = vars;
  procs = initial body ∷ [];
  assigns = [];
  functions = [];
  scopes = [];
  unit = record { ten = 0; base = Ns };
}

abbrev one_int : Value
one_int = int_value 1

-- a state in slot 0 of such a design
abbrev state_of : List Value → Standing → List Work → Bool → List Put → List Put → MachineState
state_of vars standing items fresh nonblocking moved = record {
  moment = 0;
  vars = vars;
  nets = [];
  slots = [];
  standings = standing ∷ [];
  work = items ∷ [];
  locals = [] ∷ [];
  fresh = fresh ∷ [];
  evaluations = [];
  resolutions = [];
  nonblocking = nonblocking;
  moved = moved;
  shown = [];
  finished = false;
}

-- one event of a run
pub run_one : (until : ℕ) (d : Design) (s u t : MachineState) (e : Event) (es : List Event) → settle until s ≡ u → step d u e ≡ Some t → run until d (e ∷ es) s ≡ run until d es t
run_one until d s u t e es moves is = rw (moves, is) refl

-- ---- two nonblocking updates in order: `initial begin a <= 1; a <= 2; end`
abbrev later : ℕ → ℕ → Act
later v n = act.Nonblocking (target.Var v []) (tree.Const (int_value n)) here

abbrev put : ℕ → ℕ → Put
put v n = leaves_put v 0 (int_value n)

later_step : (calls : Calls) (world : World) (v n : ℕ) (rest : List Work) (locals : List Value) (left : ℕ) → work_step calls world (Do (later v n)) rest locals left ≡ Some ((deed.Schedules (put v n), rest), left)
later_step calls world v n rest locals left =
    step_nonblocking calls world (target.Var v []) (tree.Const (int_value n)) here rest locals left
    ∙ rw (value_const calls world (int_value n) locals left) refl

abbrev two_updates : Design
two_updates = with_initial (int_var ∷ []) (view.Block (later 0 1 ∷ later 0 2 ∷ []) here)

abbrev begins : MachineState
begins = state_of (int_value 0 ∷ []) Ready (Do (later 0 1) ∷ Do (later 0 2) ∷ []) true [] []

starts : start_state two_updates ≡ begins
starts =
    ap (λ items. state_of (int_value 0 ∷ []) Ready items true [] [])
    (to_do_block (later 0 1) (later 0 2 ∷ []) here ∙ rw (to_do_nonblocking (target.Var 0 []) (tree.Const (int_value 1)) here, to_do_nonblocking (target.Var 0 []) (tree.Const (int_value 2)) here) refl)

abbrev after_first : MachineState
after_first = state_of (int_value 0 ∷ []) Ready (Do (later 0 2) ∷ []) false (put 0 1 ∷ []) []

abbrev after_second : MachineState
after_second = state_of (int_value 0 ∷ []) Over [] false (put 0 1 ∷ put 0 2 ∷ []) []

abbrev moved_both : MachineState
moved_both = state_of (int_value 0 ∷ []) Over [] false [] (put 0 1 ∷ put 0 2 ∷ [])

abbrev updated_first : MachineState
updated_first = state_of (int_value 1 ∷ []) Over [] false [] (put 0 2 ∷ [])

abbrev updated_both : MachineState
updated_both = state_of (int_value 2 ∷ []) Over [] false [] []

first_step : step two_updates begins (Stmt 0) ≡ Some after_first
unfolding make_step put_var wake
first_step =
    proc_steps two_updates begins 0 (Do (later 0 1)) (Do (later 0 2) ∷ []) (deed.Schedules (put 0 1), Do (later 0 2) ∷ []) most_turns refl refl (later_step (functions_of two_updates) (world_of_state begins) 0 1 (Do (later 0 2) ∷ []) [] most_turns)

second_step : step two_updates after_first (Stmt 0) ≡ Some after_second
unfolding make_step put_var wake
second_step =
    proc_steps two_updates after_first 0 (Do (later 0 2)) [] (deed.Schedules (put 0 2), []) most_turns refl refl (later_step (functions_of two_updates) (world_of_state after_first) 0 2 [] [] most_turns)

first_update : step two_updates moved_both Update ≡ Some updated_first
unfolding step put_var wake after_put is_same
first_update = refl

second_update : step two_updates updated_first Update ≡ Some updated_both
unfolding step put_var wake after_put is_same
second_update = refl

stays : settle 0 begins ≡ begins
unfolding settle is_active
stays = refl

stays_first : settle 0 after_first ≡ after_first
unfolding settle is_active
stays_first = refl

moves : settle 0 after_second ≡ moved_both
unfolding settle is_active
moves = refl

stays_moved : settle 0 updated_first ≡ updated_first
unfolding settle is_active
stays_moved = refl

abbrev statement_entry : Entry
statement_entry = record { event = Stmt 0; count = 1 }

abbrev update_entry : Entry
update_entry = record { event = Update; count = 1 }

abbrev two_entries : List Entry
two_entries = statement_entry ∷ statement_entry ∷ update_entry ∷ update_entry ∷ []

-- the later statement's update is performed last
pub updates_in_order : run 0 two_updates (expansion two_entries) (start_state two_updates) ≡ Some updated_both
updates_in_order =
    ap (run 0 two_updates (expansion two_entries)) starts
    ∙ (run_one 0 two_updates begins begins after_first (Stmt 0) (Stmt 0 ∷ Update ∷ Update ∷ []) stays first_step
    ∙ (run_one 0 two_updates after_first after_first after_second (Stmt 0) (Update ∷ Update ∷ []) stays_first second_step
    ∙ (run_one 0 two_updates after_second moved_both updated_first Update (Update ∷ []) moves first_update
    ∙ run_one 0 two_updates updated_first updated_first updated_both Update [] stays_moved second_update)))

pub updates_complete : IsComplete 0 updated_both
unfolding settle is_active
updates_complete = refl

-- ---- `#0` before nonblocking: `initial begin a <= 1; #0 b = a; end`
abbrev copies_a : Act
copies_a = act.Assign (target.Var 1 []) (tree.Read (object.Var 0)) here

abbrev no_delay : Act
no_delay = view.Delay (tree.Const (int_value 0)) copies_a here

abbrev inactive_first : Design
inactive_first = with_initial (int_var ∷ int_var ∷ []) (view.Block (later 0 1 ∷ no_delay ∷ []) here)

abbrev both_zero : List Value
both_zero = int_value 0 ∷ int_value 0 ∷ []

abbrev zero_start : MachineState
zero_start = state_of both_zero Ready (Do (later 0 1) ∷ Do no_delay ∷ []) true [] []

zero_starts : start_state inactive_first ≡ zero_start
zero_starts =
    ap (λ items. state_of both_zero Ready items true [] [])
    (to_do_block (later 0 1) (no_delay ∷ []) here ∙ rw (to_do_nonblocking (target.Var 0 []) (tree.Const (int_value 1)) here, to_do_delay (tree.Const (int_value 0)) copies_a here) refl)

abbrev put_later : MachineState
put_later = state_of both_zero Ready (Do no_delay ∷ []) false (put 0 1 ∷ []) []

abbrev in_inactive : MachineState
in_inactive = state_of both_zero Inactive (Do copies_a ∷ []) false (put 0 1 ∷ []) []

abbrev active_again : MachineState
active_again = state_of both_zero Ready (Do copies_a ∷ []) false (put 0 1 ∷ []) []

abbrev copied : MachineState
copied = state_of both_zero Over [] false (put 0 1 ∷ []) []

abbrev put_moved : MachineState
put_moved = state_of both_zero Over [] false [] (put 0 1 ∷ [])

abbrev put_done : MachineState
put_done = state_of (int_value 1 ∷ int_value 0 ∷ []) Over [] false [] []

put_step : step inactive_first zero_start (Stmt 0) ≡ Some put_later
unfolding make_step put_var wake
put_step =
    proc_steps inactive_first zero_start 0 (Do (later 0 1)) (Do no_delay ∷ []) (deed.Schedules (put 0 1), Do no_delay ∷ []) most_turns refl refl (later_step (functions_of inactive_first) (world_of_state zero_start) 0 1 (Do no_delay ∷ []) [] most_turns)

delays : (calls : Calls) (world : World) (locals : List Value) (left : ℕ) → work_step calls world (Do no_delay) [] locals left ≡ Some ((deed.Delays 0, Do copies_a ∷ []), left)
delays calls world locals left =
    step_delay calls world (tree.Const (int_value 0)) copies_a here [] locals left
    ∙ rw (value_const calls world (int_value 0) locals left, to_do_assign (target.Var 1 []) (tree.Read (object.Var 0)) here) refl

delay_step : step inactive_first put_later (Stmt 0) ≡ Some in_inactive
unfolding make_step put_var wake
delay_step =
    proc_steps inactive_first put_later 0 (Do no_delay) [] (deed.Delays 0, Do copies_a ∷ []) most_turns refl refl (delays (functions_of inactive_first) (world_of_state put_later) [] most_turns)

copy_deed : (calls : Calls) (world : World) (locals : List Value) (left : ℕ) → work_step calls world (Do copies_a) [] locals left ≡ Some ((deed.Writes (leaves_put 1 0 (value_at world.vars 0)), []), left)
copy_deed calls world locals left =
    step_assign calls world (target.Var 1 []) (tree.Read (object.Var 0)) here [] locals left
    ∙ rw (value_read calls world (object.Var 0) locals left) refl

copy_step : step inactive_first active_again (Stmt 0) ≡ Some copied
unfolding make_step put_var wake after_put is_same
copy_step =
    proc_steps inactive_first active_again 0 (Do copies_a) [] (deed.Writes (leaves_put 1 0 (int_value 0)), []) most_turns refl refl (copy_deed (functions_of inactive_first) (world_of_state active_again) [] most_turns)

put_update : step inactive_first put_moved Update ≡ Some put_done
unfolding step put_var wake after_put is_same
put_update = refl

zero_stays : settle 0 zero_start ≡ zero_start
unfolding settle is_active
zero_stays = refl

later_stays : settle 0 put_later ≡ put_later
unfolding settle is_active
later_stays = refl

inactive_moves : settle 0 in_inactive ≡ active_again
unfolding settle is_active
inactive_moves = refl

update_moves : settle 0 copied ≡ put_moved
unfolding settle is_active
update_moves = refl

abbrev zero_entries : List Entry
zero_entries = statement_entry ∷ statement_entry ∷ statement_entry ∷ update_entry ∷ []

-- b has the old value of a
pub inactive_before_nonblocking : run 0 inactive_first (expansion zero_entries) (start_state inactive_first) ≡ Some put_done
inactive_before_nonblocking =
    ap (run 0 inactive_first (expansion zero_entries)) zero_starts
    ∙ (run_one 0 inactive_first zero_start zero_start put_later (Stmt 0) (Stmt 0 ∷ Stmt 0 ∷ Update ∷ []) zero_stays put_step
    ∙ (run_one 0 inactive_first put_later put_later in_inactive (Stmt 0) (Stmt 0 ∷ Update ∷ []) later_stays delay_step
    ∙ (run_one 0 inactive_first in_inactive active_again copied (Stmt 0) (Update ∷ []) inactive_moves copy_step
    ∙ run_one 0 inactive_first copied put_moved put_done Update [] update_moves put_update)))

pub inactive_complete : IsComplete 0 put_done
unfolding settle is_active
inactive_complete = refl
