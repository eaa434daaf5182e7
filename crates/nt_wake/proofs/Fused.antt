-- Event expressions, without their edges.
use Rattle.std.proofs.Common.{◌≡◌, ℕ, zero, suc, List, [], ◌∷◌, map, refl, ap}
use Rattle.std.specs.Prelude.{Some, slice_get}
use Rattle.nt_value.specs.declared.kind.Edge.{Edge}
use Rattle.nt_design.specs.Expressions.{Calls, World, value_of, values_of}
use Rattle.nt_design.specs.Parts.{Value}
use Rattle.nt_design.specs.Reads.{event_trees}
use Rattle.nt_design.specs.Turns.{Timing, all_of}
use Rattle.nt_design.specs.declared.tree.Tree.{Tree}

-- the value of one of them
abbrev pub event_value : Calls → World → Edge × Tree → Timing Value
event_value calls world e = value_of calls world e.1

fused : (calls : Calls) (world : World) (on : List (Edge × Tree)) → map (value_of calls world) (event_trees on) ≡ map (event_value calls world) on
fused calls world [] = refl
fused calls world (e ∷ on) = ap (λ l. value_of calls world e.1 ∷ l) (fused calls world on)

pub events_are : (calls : Calls) (world : World) (on : List (Edge × Tree)) (locals : List Value) (left : ℕ) → values_of calls world (event_trees on) locals left ≡ all_of (map (event_value calls world) on) locals left
events_are calls world on locals left = ap (λ ms. all_of ms locals left) (fused calls world on)

pub tree_there : (on : List (Edge × Tree)) (i : ℕ) (e : Edge × Tree) → slice_get on i ≡ Some e → slice_get (event_trees on) i ≡ Some e.1
tree_there [] zero e h = cc
tree_there [] (suc i) e h = cc
tree_there (x ∷ on) zero e h = same x e h
  where
    same : (x e : Edge × Tree) → Some x ≡ Some e → Some x.1 ≡ Some e.1
    same x e g = cc
tree_there (x ∷ on) (suc i) e h = tree_there on i e h
