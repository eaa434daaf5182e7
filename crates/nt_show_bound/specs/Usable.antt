-- Types and names of the cases, of which typed trees can be made.
use Rattle.std.specs.Prelude.{ℕ, List, All, Option, Some, None}
use Rattle.nt_value.specs.Digits.{IsLeaf}
use Rattle.nt_kinds.specs.Kinds.{leaves}
use Rattle.nt_kinds.specs.declared.kind.Kind.{Kind}
use Rattle.nt_kinds.specs.declared.kind.Kind.TheViews.{out-Kind}
use Rattle.nt_typing.specs.declared.scope.Entity.{Entity}
use Rattle.nt_things.specs.Usable.{Few, IsUsable, UsableEntity}

abbrev pub MaybeUsable : Option Kind → Type 0
MaybeUsable None = Unit {0}
MaybeUsable (Some k) = IsUsable k

-- usable, if it isn't too large
pub record Fitting (k : Kind) : Type 0 where
  pub valid : All IsLeaf (leaves k)
  pub few : Few (out-Kind k)

abbrev pub AllEntities : List (List ℕ × Entity) → Type 0
AllEntities names = All (λ n. UsableEntity n.1) names
