-- What each kind of statement does, from what its parts do.
use Rattle.std.proofs.Common.{◌≡◌, ℕ, List, map, ap}
use Rattle.std.specs.Prelude.{Bool, Option, Some, None, length}
use denote.Hole.Carrier.{roll}
use Rattle.nt_value.specs.declared.place.Place.{Place}
use Rattle.nt_design.specs.Expressions.{World, Calls, value_of, values_of}
use Rattle.nt_design.specs.Parts.{Value, test_of, number_in}
use Rattle.nt_design.specs.Statements.{Doing, nothing, one_then, assign, loop, repeat_of, count_of, each_of, indices_of, always, or_nothing, first_arm, return_of, act_step, does, do_all}
use Rattle.nt_design.specs.Turns.{and_then, pick}
use Rattle.nt_value.specs.declared.kind.Edge.{Edge}
use Rattle.nt_design.specs.declared.target.Target.{Target}
use Rattle.nt_design.specs.declared.tree.Tree.{Tree}
use Rattle.nt_design.specs.declared.act.Act as act
use Rattle.nt_design.specs.declared.act.Act.{Act}
use Rattle.nt_design.specs.declared.act.Flow.TheVariants.{Broke, Continued}
use Rattle.nt_design.specs.declared.act.Act.TheViews as view
use Rattle.nt_design.specs.declared.act.Act.TheViews.{roll-Act}
use Rattle.nt_design.specs.declared.act.Act.TheOpen.{Act-F}
use Rattle.nt_design.specs.declared.act.Act.TheFolds.{fold-roll-Act}

pub does_null : (calls : Calls) (world : World) (name : ℕ) (at : Place) (locals : List Value) (left : ℕ) → does calls world name (act.Null at) locals left ≡ nothing locals left
unfolding does roll-Act roll
does_null calls world name at locals left =
    ap (λ m. m locals left) (fold-roll-Act Doing (act_step calls world name) (Act-F.Null at))

pub does_assign : (calls : Calls) (world : World) (name : ℕ) (target : Target) (right : Tree) (at : Place) (locals : List Value) (left : ℕ) → does calls world name (act.Assign target right at) locals left ≡ assign calls world target right locals left
unfolding does roll-Act roll
does_assign calls world name target right at locals left =
    ap (λ m. m locals left) (fold-roll-Act Doing (act_step calls world name) (Act-F.Assign target right at))

pub does_nonblocking : (calls : Calls) (world : World) (name : ℕ) (target : Target) (right : Tree) (at : Place) (locals : List Value) (left : ℕ) → does calls world name (act.Nonblocking target right at) locals left ≡ nothing locals left
unfolding does roll-Act roll
does_nonblocking calls world name target right at locals left =
    ap (λ m. m locals left) (fold-roll-Act Doing (act_step calls world name) (Act-F.Nonblocking target right at))

pub does_return : (calls : Calls) (world : World) (name : ℕ) (value : Option Tree) (at : Place) (locals : List Value) (left : ℕ) → does calls world name (act.Return value at) locals left ≡ return_of calls world name value locals left
unfolding does roll-Act roll
does_return calls world name value at locals left =
    ap (λ m. m locals left) (fold-roll-Act Doing (act_step calls world name) (Act-F.Return value at))

pub does_break : (calls : Calls) (world : World) (name : ℕ) (at : Place) (locals : List Value) (left : ℕ) → does calls world name (act.Break at) locals left ≡ Some ((locals, Broke), left)
unfolding does roll-Act roll
does_break calls world name at locals left =
    ap (λ m. m locals left) (fold-roll-Act Doing (act_step calls world name) (Act-F.Break at))

pub does_continue : (calls : Calls) (world : World) (name : ℕ) (at : Place) (locals : List Value) (left : ℕ) → does calls world name (act.Continue at) locals left ≡ Some ((locals, Continued), left)
unfolding does roll-Act roll
does_continue calls world name at locals left =
    ap (λ m. m locals left) (fold-roll-Act Doing (act_step calls world name) (Act-F.Continue at))

pub does_call : (calls : Calls) (world : World) (name : ℕ) (f : ℕ) (args : List Tree) (at : Place) (locals : List Value) (left : ℕ) → does calls world name (act.Call f args at) locals left ≡ and_then (values_of calls world args locals left) (λ vs l. and_then (calls f vs l) (λ v k. nothing locals k))
unfolding does roll-Act roll
does_call calls world name f args at locals left =
    ap (λ m. m locals left) (fold-roll-Act Doing (act_step calls world name) (Act-F.Call f args at))

pub does_display : (calls : Calls) (world : World) (name : ℕ) (text : List ℕ) (args : List Tree) (at : Place) (locals : List Value) (left : ℕ) → does calls world name (act.Display text args at) locals left ≡ nothing locals left
unfolding does roll-Act roll
does_display calls world name text args at locals left =
    ap (λ m. m locals left) (fold-roll-Act Doing (act_step calls world name) (Act-F.Display text args at))

pub does_finish : (calls : Calls) (world : World) (name : ℕ) (at : Place) (locals : List Value) (left : ℕ) → does calls world name (act.Finish at) locals left ≡ nothing locals left
unfolding does roll-Act roll
does_finish calls world name at locals left =
    ap (λ m. m locals left) (fold-roll-Act Doing (act_step calls world name) (Act-F.Finish at))

pub does_block : (calls : Calls) (world : World) (name : ℕ) (items : List Act) (at : Place) (locals : List Value) (left : ℕ) → does calls world name (view.Block items at) locals left ≡ do_all calls world name items locals left
unfolding does roll-Act roll
does_block calls world name items at locals left =
    ap (λ m. m locals left) (fold-roll-Act Doing (act_step calls world name) (Act-F.Block items at))

pub does_if_else : (calls : Calls) (world : World) (name : ℕ) (test : Tree) (first second : Act) (at : Place) (locals : List Value) (left : ℕ) → does calls world name (view.If test first (Some second) at) locals left ≡ and_then (value_of calls world test locals left) (λ t l. pick (test_of t) (does calls world name first locals l) (does calls world name second locals l) (does calls world name second locals l))
unfolding does roll-Act roll
does_if_else calls world name test first second at locals left =
    ap (λ m. m locals left) (fold-roll-Act Doing (act_step calls world name) (Act-F.If test first (Some second) at))

pub does_if_alone : (calls : Calls) (world : World) (name : ℕ) (test : Tree) (first : Act) (at : Place) (locals : List Value) (left : ℕ) → does calls world name (view.If test first None at) locals left ≡ and_then (value_of calls world test locals left) (λ t l. pick (test_of t) (does calls world name first locals l) (nothing locals l) (nothing locals l))
unfolding does roll-Act roll
does_if_alone calls world name test first at locals left =
    ap (λ m. m locals left) (fold-roll-Act Doing (act_step calls world name) (Act-F.If test first None at))

pub does_case_with : (calls : Calls) (world : World) (name : ℕ) (test : Tree) (arms : List (List Tree × Act)) (other : Act) (at : Place) (locals : List Value) (left : ℕ) → does calls world name (view.Case test arms (Some other) at) locals left ≡ and_then (value_of calls world test locals left) (λ t l. first_arm calls world t (map (λ arm. (arm.0, does calls world name arm.1)) arms) (or_nothing (Some (does calls world name other))) locals l)
unfolding does roll-Act roll
does_case_with calls world name test arms other at locals left =
    ap (λ m. m locals left) (fold-roll-Act Doing (act_step calls world name) (Act-F.Case test arms (Some other) at))

pub does_case_without : (calls : Calls) (world : World) (name : ℕ) (test : Tree) (arms : List (List Tree × Act)) (at : Place) (locals : List Value) (left : ℕ) → does calls world name (view.Case test arms None at) locals left ≡ and_then (value_of calls world test locals left) (λ t l. first_arm calls world t (map (λ arm. (arm.0, does calls world name arm.1)) arms) (or_nothing None) locals l)
unfolding does roll-Act roll
does_case_without calls world name test arms at locals left =
    ap (λ m. m locals left) (fold-roll-Act Doing (act_step calls world name) (Act-F.Case test arms None at))

pub does_while : (calls : Calls) (world : World) (name : ℕ) (test : Tree) (body : Act) (at : Place) (locals : List Value) (left : ℕ) → does calls world name (view.While test body at) locals left ≡ loop (value_of calls world test) nothing (does calls world name body) locals left
unfolding does roll-Act roll
does_while calls world name test body at locals left =
    ap (λ m. m locals left) (fold-roll-Act Doing (act_step calls world name) (Act-F.While test body at))

pub does_repeat : (calls : Calls) (world : World) (name : ℕ) (count : Tree) (body : Act) (at : Place) (locals : List Value) (left : ℕ) → does calls world name (view.Repeat count body at) locals left ≡ and_then (value_of calls world count locals left) (λ v l. repeat_of (count_of (number_in v)) (does calls world name body) locals l)
unfolding does roll-Act roll
does_repeat calls world name count body at locals left =
    ap (λ m. m locals left) (fold-roll-Act Doing (act_step calls world name) (Act-F.Repeat count body at))

pub does_for : (calls : Calls) (world : World) (name : ℕ) (fresh : Bool) (target : Target) (first test : Tree) (step body : Act) (at : Place) (locals : List Value) (left : ℕ) → does calls world name (view.For fresh target first test step body at) locals left ≡ one_then (assign calls world target first) (loop (value_of calls world test) (does calls world name step) (does calls world name body)) locals left
unfolding does roll-Act roll
does_for calls world name fresh target first test step body at locals left =
    ap (λ m. m locals left) (fold-roll-Act Doing (act_step calls world name) (Act-F.For fresh target first test step body at))

pub does_forever : (calls : Calls) (world : World) (name : ℕ) (body : Act) (at : Place) (locals : List Value) (left : ℕ) → does calls world name (view.Forever body at) locals left ≡ loop always nothing (does calls world name body) locals left
unfolding does roll-Act roll
does_forever calls world name body at locals left =
    ap (λ m. m locals left) (fold-roll-Act Doing (act_step calls world name) (Act-F.Forever body at))

pub does_foreach : (calls : Calls) (world : World) (name : ℕ) (bounds : Option (ℕ × ℕ)) (i : ℕ) (body : Act) (at : Place) (locals : List Value) (left : ℕ) → does calls world name (view.Foreach bounds i body at) locals left ≡ each_of (indices_of (length world.many) bounds) i (does calls world name body) locals left
unfolding does roll-Act roll
does_foreach calls world name bounds i body at locals left =
    ap (λ m. m locals left) (fold-roll-Act Doing (act_step calls world name) (Act-F.Foreach bounds i body at))

pub does_delay : (calls : Calls) (world : World) (name : ℕ) (amount : Tree) (body : Act) (at : Place) (locals : List Value) (left : ℕ) → does calls world name (view.Delay amount body at) locals left ≡ nothing locals left
unfolding does roll-Act roll
does_delay calls world name amount body at locals left =
    ap (λ m. m locals left) (fold-roll-Act Doing (act_step calls world name) (Act-F.Delay amount body at))

pub does_event : (calls : Calls) (world : World) (name : ℕ) (any : Bool) (on : List (Edge × Tree)) (body : Act) (at : Place) (locals : List Value) (left : ℕ) → does calls world name (view.Event any on body at) locals left ≡ nothing locals left
unfolding does roll-Act roll
does_event calls world name any on body at locals left =
    ap (λ m. m locals left) (fold-roll-Act Doing (act_step calls world name) (Act-F.Event any on body at))

pub does_wait : (calls : Calls) (world : World) (name : ℕ) (test : Tree) (body : Act) (at : Place) (locals : List Value) (left : ℕ) → does calls world name (view.Wait test body at) locals left ≡ nothing locals left
unfolding does roll-Act roll
does_wait calls world name test body at locals left =
    ap (λ m. m locals left) (fold-roll-Act Doing (act_step calls world name) (Act-F.Wait test body at))
