-- A design's numbers stand for what a scope's names mean.
use Rattle.std.specs.Prelude.{◌≡◌, ℕ, true, false, List, All, map, Option, Some, None, slice_get}
use Rattle.nt_value.specs.Digits.{IsFilled, IsLeaf}
use Rattle.nt_value.specs.declared.leaf.Leaf.{Leaf}
use Rattle.nt_design.specs.Shapes.{Scope as Design, Signature, signature_at}
use Rattle.nt_kinds.specs.declared.kind.Kind.{Kind}
use Rattle.nt_typing.specs.declared.scope.Callable.{Callable}
use Rattle.nt_typing.specs.declared.scope.Entity.{Entity}
use Rattle.nt_typing.specs.declared.scope.Entity.TheVariants as e
use Rattle.nt_typing.specs.declared.scope.Scope.{Scope}
use Rattle.nt_kinds.specs.Kinds.{IsSound, leaves}
use Rattle.nt_typing.specs.Names.{last_of}

-- a type that a value may have
abbrev pub IsKind : Kind → Type 0
IsKind kind = IsSound kind

-- the type of this number's object
pub record IsOf (shapes : List (List Leaf)) (n : ℕ) (kind : Kind) : Type 0 where
  pub shape : slice_get shapes n ≡ Some (leaves kind)
  pub sound : IsKind kind

abbrev pub Results : Option Kind → List Leaf → Type 0
Results None shape = Unit {0}
Results (Some kind) shape = (shape ≡ leaves kind) × IsKind kind

-- a function that may be called has the signature of its types
pub record IsCallable (d : Design) (f : Callable) : Type 0 where
  pub called : f.many ≡ false → f.item.automatic ≡ true → f.own ≡ true
      → (signature : Signature) × (signature_at d f.number ≡ Some signature) × (signature.args ≡ map leaves f.args) × Results f.result signature.result
  pub kinds : All IsKind f.args

abbrev pub Has : Design → Entity → Type 0
Has d (e.Net net kind user) = IsOf d.nets net kind
Has d e.Interconnect = Unit {0}
Has d (e.Var var kind) = IsOf d.vars var kind
Has d (e.Local local kind) = IsOf d.locals local kind
Has d (e.Array element) = (d.many ≡ Some (leaves element)) × IsKind element
Has d (e.Constant v) = IsLeaf v.leaf × IsFilled v
Has d (e.Function f) = IsCallable d f

pub record Covers (s : Scope) (d : Design) : Type 0 where
  pub has : (name : List ℕ) (e : Entity) → last_of s.names name ≡ Some e → Has d e
