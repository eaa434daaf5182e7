-- `always_comb y = a + 1; initial a = 4;`, computed: the `always_comb` begins when the other procedure has done a step, and
-- then waits for a change of `a`.
use Rattle.std.proofs.Common.{◌≡◌, ℕ, List, [], ◌∷◌, refl, ap, ◌∙◌}
use Rattle.std.specs.Prelude.{Bool, true, false, Some, None}
use Rattle.nt_value.specs.Operators.{binary_of}
use Rattle.nt_value.specs.declared.operator.Binary.TheVariants.{Add}
use Rattle.nt_value.specs.declared.unit.Base.TheVariants.{Ns}
use Rattle.nt_design.proofs.Values.{value_const, value_read, value_binary}
use Rattle.nt_design.specs.Expressions.{World, Calls, object_in}
use Rattle.nt_design.specs.Meaning.{most_turns}
use Rattle.nt_design.specs.Parts.{Value, only, one, int_value}
use Rattle.nt_design.specs.declared.act.Act as act
use Rattle.nt_design.specs.declared.act.Act.{Act}
use Rattle.nt_design.specs.declared.design.Design.{Design}
use Rattle.nt_value.specs.declared.kind.ProcKind.TheVariants.{Comb}
use Rattle.nt_design.specs.declared.object.Object.TheVariants as object
use Rattle.nt_design.specs.declared.target.Target.TheVariants as target
use Rattle.nt_design.specs.declared.tree.Tree as tree
use Rattle.nt_design.specs.declared.tree.Tree.{Tree}
use Rattle.nt_design.specs.declared.tree.Tree.TheViews as view
use Rattle.nt_semantics.proofs.Equations.{to_do_assign, step_assign, proc_steps}
use Rattle.nt_semantics.proofs.Examples.{here, int_var, initial, run_one}
use Rattle.nt_semantics.specs.Execution.{run, settle, is_active, IsComplete}
use Rattle.nt_design.specs.Puts.{after_put, leaves_put}
use Rattle.nt_semantics.specs.Same.{is_same}
use Rattle.nt_semantics.specs.State.{MachineState, start_state, world_of_state}
use Rattle.nt_semantics.specs.declared.standing.Standing.{Standing}
use Rattle.nt_semantics.specs.declared.standing.Standing.TheVariants.{Unbegun, Ready, Waits, Over}
use Rattle.nt_semantics.specs.declared.work.Work.{Work}
use Rattle.nt_semantics.specs.declared.work.Work.TheVariants.{Do, Awaiting}
use Rattle.nt_semantics.specs.Statements.{work_step}
use Rattle.nt_semantics.specs.Step.{step, make_step, put_var}
use Rattle.nt_semantics.specs.Wake.{wake, functions_of}
use Rattle.nt_semantics.specs.declared.deed.Deed.TheVariants as deed
use Rattle.nt_semantics.specs.declared.event.Event.TheVariants.{Stmt}

abbrev above : Tree
above = view.Binary Add (tree.Read (object.Var 0)) (tree.Const (int_value 1))

abbrev sets_y : Act
sets_y = act.Assign (target.Var 1 []) above here

abbrev sets_a : Act
sets_a = act.Assign (target.Var 0 []) (tree.Const (int_value 4)) here

abbrev follows : Design
follows = record {
  nets = [];
  vars = int_var ∷ int_var ∷ [];
  procs = record { kind = Comb; body = sets_y; reads = object.Var 0 ∷ []; locals = []; at = here } ∷ initial sets_a ∷ [];
  assigns = [];
  functions = [];
  scopes = [];
  unit = record { ten = 0; base = Ns };
}

abbrev waits : Work
waits = Awaiting (object.Var 0 ∷ []) sets_y

abbrev state_of : ℕ → ℕ → Standing → Standing → List Work → List Work → Bool → MachineState
state_of a y comb other comb_items other_items fresh = record {
  moment = 0;
  vars = int_value a ∷ int_value y ∷ [];
  nets = [];
  slots = [];
  standings = comb ∷ other ∷ [];
  work = comb_items ∷ other_items ∷ [];
  locals = [] ∷ [] ∷ [];
  fresh = false ∷ fresh ∷ [];
  evaluations = [];
  resolutions = [];
  nonblocking = [];
  moved = [];
  shown = [];
  finished = false;
}

abbrev unbegun : MachineState
unbegun = state_of 0 0 Unbegun Ready (Do sets_y ∷ waits ∷ []) (Do sets_a ∷ []) true

abbrev begun : MachineState
begun = state_of 4 0 Unbegun Over (Do sets_y ∷ waits ∷ []) [] false

abbrev followed : MachineState
followed = state_of 4 5 (Waits []) Over (waits ∷ []) [] false

starts : start_state follows ≡ unbegun
starts = rw (to_do_assign (target.Var 1 []) above here, to_do_assign (target.Var 0 []) (tree.Const (int_value 4)) here) refl

-- before the other procedure's step, the `always_comb` has none
waits_for_other : step follows unbegun (Stmt 0) ≡ None
unfolding step
waits_for_other = refl

a_deed : (calls : Calls) (world : World) (locals : List Value) (left : ℕ) → work_step calls world (Do sets_a) [] locals left ≡ Some ((deed.Writes (leaves_put 0 0 (int_value 4)), []), left)
a_deed calls world locals left =
    step_assign calls world (target.Var 0 []) (tree.Const (int_value 4)) here [] locals left
    ∙ rw (value_const calls world (int_value 4) locals left) refl

y_deed : (calls : Calls) (world : World) (rest : List Work) (locals : List Value) (left : ℕ) → work_step calls world (Do sets_y) rest locals left ≡ Some ((deed.Writes (leaves_put 1 0 (one (binary_of Add (only (object_in world (object.Var 0))) (only (int_value 1))))), rest), left)
y_deed calls world rest locals left =
    step_assign calls world (target.Var 1 []) above here rest locals left
    ∙ rw (value_binary calls world Add (tree.Read (object.Var 0)) (tree.Const (int_value 1)) locals left, value_read calls world (object.Var 0) locals left, value_const calls world (int_value 1) locals left) refl

a_step : step follows unbegun (Stmt 1) ≡ Some begun
unfolding make_step put_var wake after_put is_same
a_step =
    proc_steps follows unbegun 1 (Do sets_a) [] (deed.Writes (leaves_put 0 0 (int_value 4)), []) most_turns refl refl (a_deed (functions_of follows) (world_of_state unbegun) [] most_turns)

y_step : step follows begun (Stmt 0) ≡ Some followed
unfolding make_step put_var wake after_put is_same
y_step =
    proc_steps follows begun 0 (Do sets_y) (waits ∷ []) (deed.Writes (leaves_put 1 0 (int_value 5)), waits ∷ []) most_turns refl refl (y_deed (functions_of follows) (world_of_state begun) (waits ∷ []) [] most_turns)

stays : settle 0 unbegun ≡ unbegun
unfolding settle is_active
stays = refl

stays_begun : settle 0 begun ≡ begun
unfolding settle is_active
stays_begun = refl

pub comb_follows : run 0 follows (Stmt 1 ∷ Stmt 0 ∷ []) (start_state follows) ≡ Some followed
comb_follows =
    ap (run 0 follows (Stmt 1 ∷ Stmt 0 ∷ [])) starts
    ∙ (run_one 0 follows unbegun unbegun begun (Stmt 1) (Stmt 0 ∷ []) stays a_step
    ∙ run_one 0 follows begun begun followed (Stmt 0) [] stays_begun y_step)

comb_complete : IsComplete 0 followed
unfolding settle is_active
comb_complete = refl

-- a change of what it reads brings it back, and a change of another variable doesn't
comb_wakes : wake follows (object.Var 0) true followed ≡ state_of 4 5 Ready Over (Do sets_y ∷ waits ∷ []) [] false
unfolding wake
comb_wakes = rw (to_do_assign (target.Var 1 []) above here) refl

comb_sleeps : wake follows (object.Var 1) true followed ≡ followed
unfolding wake
comb_sleeps = refl
