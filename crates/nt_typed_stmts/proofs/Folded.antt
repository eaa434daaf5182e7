-- What a fold makes of each typed statement.
use Rattle.std.proofs.Common.{◌≡◌, ℕ, List, map}
use Rattle.std.specs.Prelude.{Bool, Option, Some, None}
use denote.Hole.Carrier.{roll}
use Rattle.nt_value.specs.declared.kind.Edge.{Edge}
use Rattle.nt_value.specs.declared.place.Place.{Place}
use Rattle.nt_design.specs.declared.act.Act.{Act}
use Rattle.nt_design.specs.declared.act.Act.TheVariants as act
use Rattle.nt_design.specs.declared.act.Act.TheFolds.{fold-Act, fold-roll-Act}
use Rattle.nt_design.specs.declared.act.Act.TheOpen.{Act-F}
use Rattle.nt_design.specs.declared.act.Act.TheViews.{roll-Act}
use Rattle.nt_design.specs.declared.target.Target.{Target}
use Rattle.nt_design.specs.declared.tree.Tree.{Tree}

module _ {A : Type 0} (step : Act-F A → A) where
  pub of_null : (at : Place) → fold-Act A step (act.Null at) ≡ step (Act-F.Null at)
  unfolding roll-Act roll
  of_null at = fold-roll-Act A step (Act-F.Null at)

  pub of_block : (items : List Act) (at : Place) → fold-Act A step (act.Block items at) ≡ step (Act-F.Block (map (fold-Act A step) items) at)
  unfolding roll-Act roll
  of_block items at = fold-roll-Act A step (Act-F.Block items at)

  pub of_assign : (to : Target) (b : Tree) (at : Place) → fold-Act A step (act.Assign to b at) ≡ step (Act-F.Assign to b at)
  unfolding roll-Act roll
  of_assign to b at = fold-roll-Act A step (Act-F.Assign to b at)

  pub of_nonblocking : (to : Target) (b : Tree) (at : Place) → fold-Act A step (act.Nonblocking to b at) ≡ step (Act-F.Nonblocking to b at)
  unfolding roll-Act roll
  of_nonblocking to b at = fold-roll-Act A step (Act-F.Nonblocking to b at)

  pub of_branch : (t : Tree) (b : Act) (at : Place) → fold-Act A step (act.If t b None at) ≡ step (Act-F.If t (fold-Act A step b) None at)
  unfolding roll-Act roll
  of_branch t b at = fold-roll-Act A step (Act-F.If t b None at)

  pub of_branches : (t : Tree) (b c : Act) (at : Place) → fold-Act A step (act.If t b (Some c) at) ≡ step (Act-F.If t (fold-Act A step b) (Some (fold-Act A step c)) at)
  unfolding roll-Act roll
  of_branches t b c at = fold-roll-Act A step (Act-F.If t b (Some c) at)

  pub of_choice : (t : Tree) (arms : List (List Tree × Act)) (at : Place) → fold-Act A step (act.Case t arms None at) ≡ step (Act-F.Case t (map (λ arm. (arm.0, fold-Act A step arm.1)) arms) None at)
  unfolding roll-Act roll
  of_choice t arms at = fold-roll-Act A step (Act-F.Case t arms None at)

  pub of_choices : (t : Tree) (arms : List (List Tree × Act)) (c : Act) (at : Place) → fold-Act A step (act.Case t arms (Some c) at) ≡ step (Act-F.Case t (map (λ arm. (arm.0, fold-Act A step arm.1)) arms) (Some (fold-Act A step c)) at)
  unfolding roll-Act roll
  of_choices t arms c at = fold-roll-Act A step (Act-F.Case t arms (Some c) at)

  pub of_while : (t : Tree) (b : Act) (at : Place) → fold-Act A step (act.While t b at) ≡ step (Act-F.While t (fold-Act A step b) at)
  unfolding roll-Act roll
  of_while t b at = fold-roll-Act A step (Act-F.While t b at)

  pub of_repeated : (t : Tree) (b : Act) (at : Place) → fold-Act A step (act.Repeat t b at) ≡ step (Act-F.Repeat t (fold-Act A step b) at)
  unfolding roll-Act roll
  of_repeated t b at = fold-roll-Act A step (Act-F.Repeat t b at)

  pub of_for : (fresh : Bool) (to : Target) (f t : Tree) (b c : Act) (at : Place) → fold-Act A step (act.For fresh to f t b c at) ≡ step (Act-F.For fresh to f t (fold-Act A step b) (fold-Act A step c) at)
  unfolding roll-Act roll
  of_for fresh to f t b c at = fold-roll-Act A step (Act-F.For fresh to f t b c at)

  pub of_forever : (b : Act) (at : Place) → fold-Act A step (act.Forever b at) ≡ step (Act-F.Forever (fold-Act A step b) at)
  unfolding roll-Act roll
  of_forever b at = fold-roll-Act A step (Act-F.Forever b at)

  pub of_foreach : (bounds : Option (ℕ × ℕ)) (i : ℕ) (b : Act) (at : Place) → fold-Act A step (act.Foreach bounds i b at) ≡ step (Act-F.Foreach bounds i (fold-Act A step b) at)
  unfolding roll-Act roll
  of_foreach bounds i b at = fold-roll-Act A step (Act-F.Foreach bounds i b at)

  pub of_delay : (t : Tree) (b : Act) (at : Place) → fold-Act A step (act.Delay t b at) ≡ step (Act-F.Delay t (fold-Act A step b) at)
  unfolding roll-Act roll
  of_delay t b at = fold-roll-Act A step (Act-F.Delay t b at)

  pub of_event : (any : Bool) (on : List (Edge × Tree)) (b : Act) (at : Place) → fold-Act A step (act.Event any on b at) ≡ step (Act-F.Event any on (fold-Act A step b) at)
  unfolding roll-Act roll
  of_event any on b at = fold-roll-Act A step (Act-F.Event any on b at)

  pub of_wait : (t : Tree) (b : Act) (at : Place) → fold-Act A step (act.Wait t b at) ≡ step (Act-F.Wait t (fold-Act A step b) at)
  unfolding roll-Act roll
  of_wait t b at = fold-roll-Act A step (Act-F.Wait t b at)

  pub of_return : (a : Option Tree) (at : Place) → fold-Act A step (act.Return a at) ≡ step (Act-F.Return a at)
  unfolding roll-Act roll
  of_return a at = fold-roll-Act A step (Act-F.Return a at)

  pub of_break : (at : Place) → fold-Act A step (act.Break at) ≡ step (Act-F.Break at)
  unfolding roll-Act roll
  of_break at = fold-roll-Act A step (Act-F.Break at)

  pub of_continue : (at : Place) → fold-Act A step (act.Continue at) ≡ step (Act-F.Continue at)
  unfolding roll-Act roll
  of_continue at = fold-roll-Act A step (Act-F.Continue at)

  pub of_call : (f : ℕ) (args : List Tree) (at : Place) → fold-Act A step (act.Call f args at) ≡ step (Act-F.Call f args at)
  unfolding roll-Act roll
  of_call f args at = fold-roll-Act A step (Act-F.Call f args at)

  pub of_display : (text : List ℕ) (args : List Tree) (at : Place) → fold-Act A step (act.Display text args at) ≡ step (Act-F.Display text args at)
  unfolding roll-Act roll
  of_display text args at = fold-roll-Act A step (Act-F.Display text args at)

  pub of_finish : (at : Place) → fold-Act A step (act.Finish at) ≡ step (Act-F.Finish at)
  unfolding roll-Act roll
  of_finish at = fold-roll-Act A step (Act-F.Finish at)
