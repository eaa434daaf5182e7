-- What the calls answer.
use Rattle.std.specs.Prelude.{◌≡◌, ℕ, List, Result, Ok, Err}
use Rattle.nt_value.specs.declared.leaf.Leaf.{Leaf}
use Rattle.nt_diag.specs.declared.refusal.Refusal.{Refusal}
use Rattle.nt_diag.specs.declared.refusal.Fault.{Fault as Failure}
use Rattle.nt_diag.specs.declared.refusal.Fault.TheVariants as failure
use Rattle.nt_diag.specs.Order.{NoLater}
use Rattle.nt_ast.specs.declared.types.TypeTree.{TypeTree}
use Rattle.nt_ast.specs.declared.types.TypeTree.TheViews.{out-TypeTree}
use Rattle.nt_ast.specs.Places.{DimsPlaced, TypePlaced}
use Rattle.nt_const.specs.Rules.{Names}
use Rattle.nt_kinds.specs.declared.kind.Kind.{Kind}
use Rattle.nt_kinds.specs.Kinds.{IsSound, leaves}
use Rattle.nt_type_trees.specs.Types.{TypeNode, Dim, Types, IsKind, IsDeclared}
use Rattle.nt_type_trees.specs.Faults.{TypeFault, DeclaredFault}

-- a type whose nodes stand in the order of the source, and dimensions that do
pub record InOrder (t : TypeNode) : Type 0 where
  pub file : ℕ
  pub first : ℕ
  pub end : ℕ
  pub placed : TypePlaced file first end t

pub record DimsInOrder (dims : List Dim) : Type 0 where
  pub file : ℕ
  pub first : ℕ
  pub end : ℕ
  pub placed : DimsPlaced file first end dims

-- a fault, the least where all stands in the order of the source
pub record Refuses (k : Names) (ts : Types) (t : TypeNode) (r : Refusal) : Type 0 where
  pub is : TypeFault k ts t r
  pub least : InOrder t → (s : Refusal) → TypeFault k ts t s → NoLater r s

pub record RefusesDeclared (k : Names) (ts : Types) (t : TypeTree) (dims : List Dim) (r : Refusal) : Type 0 where
  pub is : DeclaredFault k ts t dims r
  pub least : InOrder (out-TypeTree t) → DimsInOrder dims → (s : Refusal) → DeclaredFault k ts t dims s → NoLater r s

abbrev pub KindTells : Names → Types → TypeNode → Result Kind Failure → Type 0
KindTells k ts t (Ok x) = IsKind k ts t x × IsSound x
KindTells k ts t (Err (failure.Refused r)) = Refuses k ts t r
KindTells k ts t (Err (failure.OutOfMemory e)) = Unit {0}

abbrev pub DeclaredTells : Names → Types → TypeTree → List Dim → Result Kind Failure → Type 0
DeclaredTells k ts t dims (Ok x) = IsDeclared k ts t dims x × IsSound x
DeclaredTells k ts t dims (Err (failure.Refused r)) = RefusesDeclared k ts t dims r
DeclaredTells k ts t dims (Err (failure.OutOfMemory e)) = Unit {0}

abbrev pub ShapeTells : Names → Types → TypeNode → Result (List Leaf) Failure → Type 0
ShapeTells k ts t (Ok s) = (x : Kind) × IsKind k ts t x × (s ≡ leaves x)
ShapeTells k ts t (Err (failure.Refused r)) = Refuses k ts t r
ShapeTells k ts t (Err (failure.OutOfMemory e)) = Unit {0}
