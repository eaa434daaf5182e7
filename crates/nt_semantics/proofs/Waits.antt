-- What wakes a procedure that waits, computed.
use Rattle.std.proofs.Common.{◌≡◌, List, [], ◌∷◌, ◌++◌, refl, ap, ◌∙◌}
use Rattle.std.specs.Prelude.{true, false}
use Rattle.std.specs.List.{flat_map}
use denote.Hole.Carrier.{roll}
use Rattle.nt_value.specs.declared.place.Place.{Place as TextPlace}
use Rattle.nt_value.specs.declared.digit.Digit.TheVariants.{Zero, One}
use Rattle.nt_value.specs.Operators.{unsigned_leaf}
use Rattle.nt_design.proofs.Values.{value_read}
use Rattle.nt_design.specs.Expressions.{World, Calls, values_of}
use Rattle.nt_design.specs.Meaning.{most_turns}
use Rattle.nt_design.specs.Parts.{Value, one}
use Rattle.nt_design.specs.Reads.{reads_of, reads_step, event_trees}
use Rattle.nt_design.specs.declared.act.Act.{Act}
use Rattle.nt_design.specs.declared.act.Act.TheViews as view
use Rattle.nt_design.specs.declared.act.Act.TheViews.{roll-Act, out-roll-Act}
use Rattle.nt_design.specs.declared.act.Act.TheOpen.{Act-F}
use Rattle.nt_value.specs.declared.kind.Edge.{Edge}
use Rattle.nt_value.specs.declared.kind.Edge.TheVariants.{Pos}
use Rattle.nt_design.specs.declared.object.Object.{Object}
use Rattle.nt_design.specs.declared.object.Object.TheVariants.{Net, Var}
use Rattle.nt_design.specs.declared.tree.Tree as tree
use Rattle.nt_design.specs.declared.tree.Tree.{Tree}
use Rattle.nt_design.specs.declared.tree.Tree.TheViews.{roll-Tree}
use Rattle.nt_design.specs.declared.tree.Tree.TheOpen.{Tree-F}
use Rattle.nt_design.specs.declared.tree.Tree.TheFolds.{fold-roll-Tree}
use Rattle.nt_semantics.specs.Same.{is_one_of}
use Rattle.nt_semantics.specs.State.{to_do}
use Rattle.nt_semantics.specs.declared.standing.Standing.TheVariants.{Waits}
use Rattle.nt_semantics.specs.declared.work.Work.{Work}
use Rattle.nt_semantics.specs.declared.work.Work.TheVariants.{Do}
use Rattle.nt_semantics.specs.Wake.{Asleep, Keeps, Wakes, wakes_if, tested, tested_if, statement_wakes, waking}

-- an event control at the head is tested
pub waking_event : (calls : Calls) (world : World) (o : Object) (kept : List Value) (on : List (Edge × Tree)) (body : Act) (at : TextPlace) (rest : List Work) (locals : List Value) → waking calls world o (Waits kept) (Do (view.Event false on body at) ∷ rest) locals ≡ tested_if (is_one_of (flat_map reads_of (event_trees on)) o) (tested on kept (to_do body ++ rest) (values_of calls world (event_trees on) locals most_turns))
unfolding roll-Act roll
waking_event calls world o kept on body at rest locals =
    ap (statement_wakes calls world o kept (view.Event false on body at) rest locals) (out-roll-Act (Act-F.Event false on body at))

-- a `wait` at the head is to be tested again
pub waking_wait : (calls : Calls) (world : World) (o : Object) (test : Tree) (body : Act) (at : TextPlace) (rest : List Work) (locals : List Value) → waking calls world o (Waits []) (Do (view.Wait test body at) ∷ rest) locals ≡ wakes_if (is_one_of (reads_of test) o) (Do (view.Wait test body at) ∷ rest)
unfolding roll-Act roll
waking_wait calls world o test body at rest locals =
    ap (statement_wakes calls world o [] (view.Wait test body at) rest locals) (out-roll-Act (Act-F.Wait test body at))

pub reads_read : (o : Object) → reads_of (tree.Read o) ≡ o ∷ []
unfolding roll-Tree roll
reads_read o = fold-roll-Tree (List Object) reads_step (Tree-F.Read o)

-- `@(posedge c)`, with c a net
abbrev clock : List (Edge × Tree)
clock = (Pos, tree.Read (Net 0)) ∷ []

abbrev low : Value
low = one (record { leaf = unsigned_leaf 1 true; digits = Zero ∷ [] })

abbrev high : Value
high = one (record { leaf = unsigned_leaf 1 true; digits = One ∷ [] })

abbrev with_clock : Value → World
with_clock c = record { time = 0; nets = c ∷ []; vars = []; many = []; element = [] }

-- it wakes where the clock rises
rises : (calls : Calls) (body : Act) (at : TextPlace) (rest : List Work) (locals : List Value) → waking calls (with_clock high) (Net 0) (Waits (low ∷ [])) (Do (view.Event false clock body at) ∷ rest) locals ≡ Wakes (to_do body ++ rest)
rises calls body at rest locals =
    waking_event calls (with_clock high) (Net 0) (low ∷ []) clock body at rest locals
    ∙ rw (reads_read (Net 0), value_read calls (with_clock high) (Net 0) locals most_turns) refl

-- it keeps the new value where the clock falls
falls : (calls : Calls) (body : Act) (at : TextPlace) (rest : List Work) (locals : List Value) → waking calls (with_clock low) (Net 0) (Waits (high ∷ [])) (Do (view.Event false clock body at) ∷ rest) locals ≡ Keeps (low ∷ [])
falls calls body at rest locals =
    waking_event calls (with_clock low) (Net 0) (high ∷ []) clock body at rest locals
    ∙ rw (reads_read (Net 0), value_read calls (with_clock low) (Net 0) locals most_turns) refl

-- a change of another object is nothing to it
sleeps : (calls : Calls) (body : Act) (at : TextPlace) (rest : List Work) (locals : List Value) → waking calls (with_clock high) (Var 0) (Waits (low ∷ [])) (Do (view.Event false clock body at) ∷ rest) locals ≡ Asleep
sleeps calls body at rest locals =
    waking_event calls (with_clock high) (Var 0) (low ∷ []) clock body at rest locals ∙ rw (reads_read (Net 0)) refl
