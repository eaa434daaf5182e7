-- Laws: a type tree stands for one type, and has a fault only where it stands for none.
use Rattle.std.specs.Prelude.{◌≡◌, List}
use Rattle.nt_diag.specs.declared.refusal.Refusal.{Refusal}
use Rattle.nt_ast.specs.declared.types.TypeTree.{TypeTree}
use Rattle.nt_const.specs.Rules.{Names}
use Rattle.nt_kinds.specs.declared.kind.Kind.{Kind}
use Rattle.nt_type_trees.specs.Types.{TypeNode, Dim, Types, IsKind, IsDeclared}
use Rattle.nt_type_trees.specs.Faults.{TypeFault, DeclaredFault}

pub record OneType : Type 0 where
  pub one : (k : Names) (ts : Types) (t : TypeNode) (x y : Kind) → IsKind k ts t x → IsKind k ts t y → x ≡ y
  pub one_declared : (k : Names) (ts : Types) (t : TypeTree) (dims : List Dim) (x y : Kind) → IsDeclared k ts t dims x → IsDeclared k ts t dims y → x ≡ y
  pub faultless : (k : Names) (ts : Types) (t : TypeNode) (x : Kind) (r : Refusal) → IsKind k ts t x → TypeFault k ts t r → ⊥
  pub declared_faultless : (k : Names) (ts : Types) (t : TypeTree) (dims : List Dim) (x : Kind) (r : Refusal) → IsDeclared k ts t dims x → DeclaredFault k ts t dims r → ⊥
