-- Types, constants and functions of which typed trees can be made.
use Rattle.std.specs.Prelude.{◌≡◌, ℕ, ◌<◌, ◌^◌, List, [], ◌∷◌, Option, Some, None, Result, Ok, Err}
use Rattle.nt_value.specs.Digits.{IsLeaf}
use Rattle.nt_value.specs.declared.leaf.Leaf.{Leaf}
use Rattle.nt_value.specs.declared.place.Place.{Place}
use Rattle.nt_kinds.specs.Kinds.{IsSound, span}
use Rattle.nt_kinds.specs.declared.kind.Kind.{Kind}
use Rattle.nt_kinds.specs.declared.kind.Kind.TheOpen.{Kind-F}
use Rattle.nt_kinds.specs.declared.kind.Kind.TheViews.{out-Kind}
use Rattle.nt_typing.specs.declared.scope.Callable.{Callable}
use Rattle.nt_typing.specs.declared.scope.Entity.{Entity}
use Rattle.nt_typing.specs.declared.scope.Entity.TheVariants as e
use Rattle.nt_typing.specs.declared.scope.Scope.{Scope}
use Rattle.nt_typing.specs.declared.thing.Thing.{Thing}
use Rattle.nt_typing.specs.declared.thing.Thing.TheVariants.{Value as value, Many as many}
use Rattle.nt_typing.specs.Names.{last_of}

mutual
  -- each array in the type has fewer than 2^32 elements: a typed tree tells their number
  pub data Few : Kind-F Kind → Type 0 where
    few_one : (leaf : Leaf) (left right : ℕ) → Few (Kind-F.One leaf left right)
    few_members : (at : Place) (ms : List (List ℕ × Kind)) → FewEach ms → Few (Kind-F.Struct at ms)
    few_elements : (left right : ℕ) (element : Kind) → span left right < 2 ^ 32 → Few (out-Kind element) → Few (Kind-F.Array left right element)

  pub data FewEach : List (List ℕ × Kind) → Type 0 where
    no_members : FewEach []
    more_members : (m : List ℕ × Kind) (ms : List (List ℕ × Kind)) → Few (out-Kind m.1) → FewEach ms → FewEach (m ∷ ms)

-- a type that a value may have, and that a typed tree can tell of
pub record IsUsable (kind : Kind) : Type 0 where
  pub sound : IsSound kind
  pub few : Few (out-Kind kind)

pub data AllUsable : List Kind → Type 0 where
  no_kinds : AllUsable []
  more_kinds : (k : Kind) (ks : List Kind) → IsUsable k → AllUsable ks → AllUsable (k ∷ ks)

abbrev pub UsableResult : Option Kind → Type 0
UsableResult None = Unit {0}
UsableResult (Some kind) = IsUsable kind

pub record UsableFunction (f : Callable) : Type 0 where
  pub args : AllUsable f.args
  pub result : UsableResult f.result

abbrev pub UsableEntity : Entity → Type 0
UsableEntity (e.Net net kind user) = IsUsable kind
UsableEntity e.Interconnect = Unit {0}
UsableEntity (e.Var var kind) = IsUsable kind
UsableEntity (e.Local local kind) = IsUsable kind
UsableEntity (e.Array element) = IsUsable element
UsableEntity (e.Constant v) = IsLeaf v.leaf
UsableEntity (e.Function f) = UsableFunction f

-- a scope whose names mean such
pub record UsableScope (s : Scope) : Type 0 where
  pub means : (name : List ℕ) (x : Entity) → last_of s.names name ≡ Some x → UsableEntity x

abbrev pub UsableThing : Thing → Type 0
UsableThing (value kind a) = IsUsable kind
UsableThing (many kind) = IsUsable kind

abbrev pub OnUsable : {E : Type 0} → Result Thing E → Type 0
OnUsable (Ok h) = UsableThing h
OnUsable (Err r) = Unit {0}
