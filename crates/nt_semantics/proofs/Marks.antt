-- Two marks, one publication: two drivers of a net that a function resolves, computed. `assign n = s; assign n = s + 1;
-- initial #1 s = 1;`
use Rattle.std.proofs.Common.{◌≡◌, ℕ, List, [], ◌∷◌, refl, ap, ◌∙◌}
use Rattle.std.specs.Prelude.{Bool, true, false, Some}
use Rattle.nt_value.specs.Operators.{binary_of}
use Rattle.nt_value.specs.declared.operator.Binary.TheVariants.{Add}
use Rattle.nt_value.specs.declared.unit.Base.TheVariants.{Ns}
use Rattle.nt_design.proofs.Values.{value_const, value_read, value_binary}
use Rattle.nt_design.specs.Expressions.{World, Calls, value_of, object_in}
use Rattle.nt_design.specs.Meaning.{most_turns}
use Rattle.nt_design.specs.Parts.{Value, only, one, int_leaf, int_value}
use Rattle.nt_design.specs.declared.act.Act as act
use Rattle.nt_design.specs.declared.act.Act.{Act}
use Rattle.nt_design.specs.declared.act.Act.TheViews as act_view
use Rattle.nt_design.specs.declared.design.Design.{Design}
use Rattle.nt_design.specs.declared.object.NetKind.TheVariants.{Resolved}
use Rattle.nt_design.specs.declared.object.Object.TheVariants as object
use Rattle.nt_design.specs.declared.target.Target.TheVariants as target
use Rattle.nt_design.specs.declared.tree.Tree as tree
use Rattle.nt_design.specs.declared.tree.Tree.{Tree}
use Rattle.nt_design.specs.declared.tree.Tree.TheViews as view
use Rattle.nt_semantics.proofs.Equations.{to_do_delay, to_do_assign, step_assign, step_delay, proc_steps}
use Rattle.nt_semantics.proofs.Examples.{int_var, initial, run_one}
use Rattle.nt_semantics.proofs.Sums.{here, sum, sum_is}
use Rattle.nt_semantics.specs.Execution.{run, settle, is_active, IsComplete, expansion}
use Rattle.nt_design.specs.Puts.{after_put, leaves_put}
use Rattle.nt_semantics.specs.Same.{is_same}
use Rattle.nt_semantics.specs.State.{MachineState, start_state, world_of_state}
use Rattle.nt_semantics.specs.declared.standing.Standing.{Standing}
use Rattle.nt_semantics.specs.declared.standing.Standing.TheVariants.{Ready, Later, Over}
use Rattle.nt_semantics.specs.declared.work.Work.{Work}
use Rattle.nt_semantics.specs.declared.work.Work.TheVariants.{Do}
use Rattle.nt_semantics.specs.Statements.{work_step}
use Rattle.nt_semantics.specs.Step.{step, make_step, put_var, set_net}
use Rattle.nt_semantics.specs.Wake.{wake, functions_of}
use Rattle.nt_semantics.specs.declared.deed.Deed.TheVariants as deed
use Rattle.nt_semantics.specs.declared.event.Event.{Event}
use Rattle.nt_semantics.specs.declared.event.Event.TheVariants.{Stmt, Assign, Resolve}
use Rattle.nt_semantics.specs.declared.event.Entry.{Entry}

-- ---- the design
abbrev reads_s : Tree
reads_s = tree.Read (object.Var 0)

abbrev one_above : Tree
one_above = view.Binary Add reads_s (tree.Const (int_value 1))

abbrev sets_s : Act
sets_s = act.Assign (target.Var 0 []) (tree.Const (int_value 1)) here

abbrev waits_one : Act
waits_one = act_view.Delay (tree.Const (int_value 1)) sets_s here

abbrev pub two_drivers : Design
two_drivers = record {
  nets = record { name = []; shape = int_leaf ∷ []; kind = Resolved 0; slots = 0 ∷ 1 ∷ []; at = here } ∷ [];
  vars = int_var ∷ [];
  procs = initial waits_one ∷ [];
  assigns =
      record { target = target.Slot 0 0 0 0; right = reads_s; reads = object.Var 0 ∷ []; at = here }
      ∷ record { target = target.Slot 0 1 0 0; right = one_above; reads = object.Var 0 ∷ []; at = here }
      ∷ [];
  functions = sum ∷ [];
  scopes = [];
  unit = record { ten = 0; base = Ns };
}

-- a state: the moment; the variable, the net and its two slots; the procedure; the counts
abbrev pub state_of : ℕ → ℕ → ℕ → ℕ → ℕ → Standing → List Work → Bool → ℕ → ℕ → ℕ → MachineState
state_of moment s n first second standing items fresh evals0 evals1 resolutions = record {
  moment = moment;
  vars = int_value s ∷ [];
  nets = int_value n ∷ [];
  slots = int_value first ∷ int_value second ∷ [];
  standings = standing ∷ [];
  work = items ∷ [];
  locals = [] ∷ [];
  fresh = fresh ∷ [];
  evaluations = evals0 ∷ evals1 ∷ [];
  resolutions = resolutions ∷ [];
  nonblocking = [];
  moved = [];
  shown = [];
  finished = false;
}

-- ---- values
above_is : (calls : Calls) (world : World) (left : ℕ) → value_of calls world one_above [] left ≡ Some (one (binary_of Add (only (object_in world (object.Var 0))) (only (int_value 1))), left)
above_is calls world left =
    value_binary calls world Add reads_s (tree.Const (int_value 1)) [] left
    ∙ rw (value_read calls world (object.Var 0) [] left, value_const calls world (int_value 1) [] left) refl

delay_is : (calls : Calls) (world : World) (locals : List Value) (left : ℕ) → work_step calls world (Do waits_one) [] locals left ≡ Some ((deed.Delays 1, Do sets_s ∷ []), left)
delay_is calls world locals left =
    step_delay calls world (tree.Const (int_value 1)) sets_s here [] locals left
    ∙ rw (value_const calls world (int_value 1) locals left, to_do_assign (target.Var 0 []) (tree.Const (int_value 1)) here) refl

sets_is : (calls : Calls) (world : World) (locals : List Value) (left : ℕ) → work_step calls world (Do sets_s) [] locals left ≡ Some ((deed.Writes (leaves_put 0 0 (int_value 1)), []), left)
sets_is calls world locals left =
    step_assign calls world (target.Var 0 []) (tree.Const (int_value 1)) here [] locals left
    ∙ rw (value_const calls world (int_value 1) locals left) refl

sum_of : (a b : Value) → functions_of two_drivers 0 (a ∷ b ∷ []) most_turns ≡ Some (one (binary_of Add (only (one (binary_of Add (only (int_value 0)) (only a)))) (only b)), 65533)
sum_of a b = sum_is [] 65535 65533 a b

-- ---- slot 0
abbrev pub m0 : MachineState
m0 = state_of 0 0 0 0 0 Ready (Do waits_one ∷ []) true 1 1 1

abbrev pub m1 : MachineState
m1 = state_of 0 0 0 0 0 (Later 1) (Do sets_s ∷ []) false 1 1 1

abbrev pub m2 : MachineState
m2 = state_of 0 0 0 0 0 (Later 1) (Do sets_s ∷ []) false 0 1 1

abbrev pub m3 : MachineState
m3 = state_of 0 0 0 0 1 (Later 1) (Do sets_s ∷ []) false 0 0 2

abbrev pub m4 : MachineState
m4 = state_of 0 0 1 0 1 (Later 1) (Do sets_s ∷ []) false 0 0 1

abbrev pub m5 : MachineState
m5 = state_of 0 0 1 0 1 (Later 1) (Do sets_s ∷ []) false 0 0 0

abbrev pub m6 : MachineState
m6 = state_of 1 0 1 0 1 Ready (Do sets_s ∷ []) false 0 0 0

abbrev pub m7 : MachineState
m7 = state_of 1 1 1 0 1 Over [] false 1 1 0

abbrev pub m8 : MachineState
m8 = state_of 1 1 1 1 1 Over [] false 0 1 1

abbrev pub m9 : MachineState
m9 = state_of 1 1 1 1 2 Over [] false 0 0 2

abbrev pub m10 : MachineState
m10 = state_of 1 1 3 1 2 Over [] false 0 0 1

abbrev pub m11 : MachineState
m11 = state_of 1 1 3 1 2 Over [] false 0 0 0

pub starts : start_state two_drivers ≡ m0
starts =
    ap (λ items. state_of 0 0 0 0 0 Ready items true 1 1 1) (to_do_delay (tree.Const (int_value 1)) sets_s here)

pub step0 : step two_drivers m0 (Stmt 0) ≡ Some m1
unfolding make_step put_var wake
step0 =
    proc_steps two_drivers m0 0 (Do waits_one) [] (deed.Delays 1, Do sets_s ∷ []) most_turns refl refl (delay_is (functions_of two_drivers) (world_of_state m0) [] most_turns)

pub step1 : step two_drivers m1 (Assign 0) ≡ Some m2
unfolding step is_same
step1 = rw (value_read (functions_of two_drivers) (world_of_state m1) (object.Var 0) [] most_turns) refl

pub step2 : step two_drivers m2 (Assign 1) ≡ Some m3
unfolding step is_same
step2 = rw (above_is (functions_of two_drivers) (world_of_state m2) most_turns) refl

pub step3 : step two_drivers m3 (Resolve 0 (0 ∷ 1 ∷ [])) ≡ Some m4
unfolding step set_net wake is_same
step3 = rw (sum_of (int_value 0) (int_value 1)) refl

pub step4 : step two_drivers m4 (Resolve 0 (0 ∷ 1 ∷ [])) ≡ Some m5
unfolding step set_net wake is_same
step4 = rw (sum_of (int_value 0) (int_value 1)) refl

-- ---- slot 1
pub step5 : step two_drivers m6 (Stmt 0) ≡ Some m7
unfolding make_step put_var wake after_put is_same
step5 =
    proc_steps two_drivers m6 0 (Do sets_s) [] (deed.Writes (leaves_put 0 0 (int_value 1)), []) most_turns refl refl (sets_is (functions_of two_drivers) (world_of_state m6) [] most_turns)

pub step6 : step two_drivers m7 (Assign 0) ≡ Some m8
unfolding step is_same
step6 = rw (value_read (functions_of two_drivers) (world_of_state m7) (object.Var 0) [] most_turns) refl

pub step7 : step two_drivers m8 (Assign 1) ≡ Some m9
unfolding step is_same
step7 = rw (above_is (functions_of two_drivers) (world_of_state m8) most_turns) refl

pub step8 : step two_drivers m9 (Resolve 0 (0 ∷ 1 ∷ [])) ≡ Some m10
unfolding step set_net wake is_same
step8 = rw (sum_of (int_value 1) (int_value 2)) refl

pub step9 : step two_drivers m10 (Resolve 0 (0 ∷ 1 ∷ [])) ≡ Some m11
unfolding step set_net wake is_same
step9 = rw (sum_of (int_value 1) (int_value 2)) refl

-- ---- the run
moves : settle 1 m5 ≡ m6
unfolding settle is_active
moves = refl

stays0 : settle 1 m0 ≡ m0
unfolding settle is_active
stays0 = refl

stays1 : settle 1 m1 ≡ m1
unfolding settle is_active
stays1 = refl

stays2 : settle 1 m2 ≡ m2
unfolding settle is_active
stays2 = refl

stays3 : settle 1 m3 ≡ m3
unfolding settle is_active
stays3 = refl

stays4 : settle 1 m4 ≡ m4
unfolding settle is_active
stays4 = refl

stays7 : settle 1 m7 ≡ m7
unfolding settle is_active
stays7 = refl

stays8 : settle 1 m8 ≡ m8
unfolding settle is_active
stays8 = refl

stays9 : settle 1 m9 ≡ m9
unfolding settle is_active
stays9 = refl

stays10 : settle 1 m10 ≡ m10
unfolding settle is_active
stays10 = refl

abbrev resolution : Entry
resolution = record { event = Resolve 0 (0 ∷ 1 ∷ []); count = 2 }

abbrev statement : Entry
statement = record { event = Stmt 0; count = 1 }

abbrev first : Entry
first = record { event = Assign 0; count = 1 }

abbrev second : Entry
second = record { event = Assign 1; count = 1 }

abbrev pub all_entries : List Entry
all_entries = statement ∷ first ∷ second ∷ resolution ∷ statement ∷ first ∷ second ∷ resolution ∷ []

-- the events that are left after so many
abbrev left10 : List Event
left10 = []

abbrev left9 : List Event
left9 = Resolve 0 (0 ∷ 1 ∷ []) ∷ left10

abbrev left8 : List Event
left8 = Resolve 0 (0 ∷ 1 ∷ []) ∷ left9

abbrev left7 : List Event
left7 = Assign 1 ∷ left8

abbrev left6 : List Event
left6 = Assign 0 ∷ left7

abbrev left5 : List Event
left5 = Stmt 0 ∷ left6

abbrev left4 : List Event
left4 = Resolve 0 (0 ∷ 1 ∷ []) ∷ left5

abbrev left3 : List Event
left3 = Resolve 0 (0 ∷ 1 ∷ []) ∷ left4

abbrev left2 : List Event
left2 = Assign 1 ∷ left3

abbrev left1 : List Event
left1 = Assign 0 ∷ left2

-- two marks are one publication, of count 2
pub one_publication : run 1 two_drivers (expansion all_entries) (start_state two_drivers) ≡ Some m11
one_publication =
    ap (run 1 two_drivers (expansion all_entries)) starts
    ∙ (run_one 1 two_drivers m0 m0 m1 (Stmt 0) left1 stays0 step0
    ∙ (run_one 1 two_drivers m1 m1 m2 (Assign 0) left2 stays1 step1
    ∙ (run_one 1 two_drivers m2 m2 m3 (Assign 1) left3 stays2 step2
    ∙ (run_one 1 two_drivers m3 m3 m4 (Resolve 0 (0 ∷ 1 ∷ [])) left4 stays3 step3
    ∙ (run_one 1 two_drivers m4 m4 m5 (Resolve 0 (0 ∷ 1 ∷ [])) left5 stays4 step4
    ∙ (run_one 1 two_drivers m5 m6 m7 (Stmt 0) left6 moves step5
    ∙ (run_one 1 two_drivers m7 m7 m8 (Assign 0) left7 stays7 step6
    ∙ (run_one 1 two_drivers m8 m8 m9 (Assign 1) left8 stays8 step7
    ∙ (run_one 1 two_drivers m9 m9 m10 (Resolve 0 (0 ∷ 1 ∷ [])) left9 stays9 step8
    ∙ run_one 1 two_drivers m10 m10 m11 (Resolve 0 (0 ∷ 1 ∷ [])) left10 stays10 step9)))))))))

pub publication_complete : IsComplete 1 m11
unfolding settle is_active
publication_complete = refl
