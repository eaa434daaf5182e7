-- What one step of each kind of statement is, and what statements unfold to.
use Rattle.std.proofs.Common.{◌≡◌, ℕ, List, [], ◌∷◌, ◌++◌, map, refl, ap, ◌∙◌}
use Rattle.std.specs.Prelude.{true, Some}
use Rattle.std.specs.List.{flat_map}
use denote.Hole.Carrier.{roll, out}
use Rattle.nt_value.specs.declared.place.Place.{Place as TextPlace}
use Rattle.nt_design.specs.Expressions.{World, Calls, value_of}
use Rattle.nt_design.specs.Parts.{Value, number_in}
use Rattle.nt_design.specs.Statements.{count_of}
use Rattle.nt_design.specs.Turns.{and_then}
use Rattle.nt_design.specs.declared.act.Act as act
use Rattle.nt_design.specs.declared.act.Act.{Act, out-Act}
use Rattle.nt_design.specs.declared.act.Act.TheViews as view
use Rattle.nt_design.specs.declared.act.Act.TheViews.{roll-Act, out-roll-Act}
use Rattle.nt_design.specs.declared.act.Act.TheOpen.{Act-F}
use Rattle.nt_design.specs.declared.act.Act.TheFolds.{fold-Act, fold-roll-Act}
use Rattle.nt_design.specs.declared.design.Design.{Design}
use Rattle.nt_design.specs.declared.target.Target.{Target}
use Rattle.nt_design.specs.declared.tree.Tree.{Tree}
use Rattle.nt_design.specs.Meaning.{most_turns}
use Rattle.nt_semantics.specs.State.{MachineState, to_do, unfolded, one_by_one, in_block, standing_at, work_at, locals_at, world_of_state}
use Rattle.nt_semantics.specs.declared.work.Work.{Work}
use Rattle.nt_semantics.specs.declared.work.Work.TheVariants.{Do}
use Rattle.nt_semantics.specs.Statements.{does, assigns, statement, statement_step, work_step}
use Rattle.nt_semantics.specs.Step.{step, make_step, is_pending_at}
use Rattle.nt_semantics.specs.Wake.{functions_of}
use Rattle.nt_semantics.specs.declared.deed.Deed.{Deed}
use Rattle.nt_semantics.specs.declared.deed.Deed.TheVariants as deed
use Rattle.nt_semantics.specs.declared.event.Event.TheVariants.{Stmt}

-- ---- blocks
-- a nonempty block is its statements, one after the other
each_once : (acts : List Act) → one_by_one (map (fold-Act (Act → List Work) unfolded) acts) acts ≡ flat_map to_do acts
unfolding to_do
each_once [] = refl
each_once (a ∷ acts) = ap (λ items. to_do a ++ items) (each_once acts)

pub to_do_block : (a : Act) (acts : List Act) (at : TextPlace) → to_do (view.Block (a ∷ acts) at) ≡ flat_map to_do (a ∷ acts)
unfolding to_do roll-Act roll
to_do_block a acts at =
    ap (λ f. f (view.Block (a ∷ acts) at)) (fold-roll-Act (Act → List Work) unfolded (Act-F.Block (a ∷ acts) at))
    ∙ (ap (λ s. one_by_one (map (fold-Act (Act → List Work) unfolded) (a ∷ acts)) (in_block s)) (out-roll-Act (Act-F.Block (a ∷ acts) at))
    ∙ each_once (a ∷ acts))

pub to_do_nonblocking : (left_side : Target) (right : Tree) (at : TextPlace) → to_do (act.Nonblocking left_side right at) ≡ Do (act.Nonblocking left_side right at) ∷ []
unfolding to_do roll-Act roll
to_do_nonblocking left_side right at =
    ap (λ f. f (act.Nonblocking left_side right at)) (fold-roll-Act (Act → List Work) unfolded (Act-F.Nonblocking left_side right at))

pub to_do_assign : (left_side : Target) (right : Tree) (at : TextPlace) → to_do (act.Assign left_side right at) ≡ Do (act.Assign left_side right at) ∷ []
unfolding to_do roll-Act roll
to_do_assign left_side right at =
    ap (λ f. f (act.Assign left_side right at)) (fold-roll-Act (Act → List Work) unfolded (Act-F.Assign left_side right at))

pub to_do_delay : (amount : Tree) (body : Act) (at : TextPlace) → to_do (view.Delay amount body at) ≡ Do (view.Delay amount body at) ∷ []
unfolding to_do roll-Act roll
to_do_delay amount body at =
    ap (λ f. f (view.Delay amount body at)) (fold-roll-Act (Act → List Work) unfolded (Act-F.Delay amount body at))

-- ---- statements
pub step_assign : (calls : Calls) (world : World) (left_side : Target) (right : Tree) (at : TextPlace) (rest : List Work) (locals : List Value) (left : ℕ) → work_step calls world (Do (act.Assign left_side right at)) rest locals left ≡ assigns calls world (λ put. deed.Writes put) left_side right rest locals left
unfolding work_step statement_step out-Act out
step_assign calls world left_side right at rest locals left = refl

pub step_nonblocking : (calls : Calls) (world : World) (left_side : Target) (right : Tree) (at : TextPlace) (rest : List Work) (locals : List Value) (left : ℕ) → work_step calls world (Do (act.Nonblocking left_side right at)) rest locals left ≡ assigns calls world (λ put. deed.Schedules put) left_side right rest locals left
unfolding work_step statement_step out-Act out
step_nonblocking calls world left_side right at rest locals left = refl

pub step_delay : (calls : Calls) (world : World) (amount : Tree) (body : Act) (at : TextPlace) (rest : List Work) (locals : List Value) (left : ℕ) → work_step calls world (Do (view.Delay amount body at)) rest locals left ≡ and_then (value_of calls world amount locals left) (λ v l. does (deed.Delays (count_of (number_in v))) (to_do body ++ rest) locals l)
unfolding work_step statement_step roll-Act roll
step_delay calls world amount body at rest locals left =
    ap (λ s. statement calls world (view.Delay amount body at) rest s locals left) (out-roll-Act (Act-F.Delay amount body at))

-- ---- a procedure's step
pub proc_steps : (d : Design) (s : MachineState) (p : ℕ) (i : Work) (rest : List Work) (made : Deed × List Work) (left : ℕ) → is_pending_at s (standing_at s p) ≡ true → work_at s p ≡ i ∷ rest → work_step (functions_of d) (world_of_state s) i rest (locals_at s p) most_turns ≡ Some (made, left) → step d s (Stmt p) ≡ Some (make_step d p s made)
unfolding step
proc_steps d s p i rest made left pending first is = rw (pending, first, is) refl
