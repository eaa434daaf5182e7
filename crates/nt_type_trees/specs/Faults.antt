-- The faults of a type tree. A fault of the whole rests on parts without one.
use Rattle.std.specs.Prelude.{◌≡◌, ℕ, Bool, List, Option, Some, None, slice_get}
use Rattle.nt_value.specs.Digits.{LeafValue}
use Rattle.nt_value.specs.declared.place.Place.{Place}
use Rattle.nt_diag.specs.declared.refusal.Refusal.{Refusal}
use Rattle.nt_diag.specs.declared.rule.Rule.TheVariants as rule
use Rattle.nt_ast.specs.declared.path.Path.{Path}
use Rattle.nt_ast.specs.declared.path.Declared.{Declared}
use Rattle.nt_ast.specs.declared.expr.Expr.{Expr}
use Rattle.nt_ast.specs.declared.expr.Expr.TheViews.{out-Expr}
use Rattle.nt_ast.specs.declared.types.IntWord.{IntWord}
use Rattle.nt_ast.specs.declared.types.TypeTree.{TypeTree}
use Rattle.nt_ast.specs.declared.types.TypeTree.TheOpen.{TypeTree-F}
use Rattle.nt_ast.specs.declared.types.TypeTree.TheViews.{out-TypeTree}
use Rattle.nt_ast.specs.Places.{place_of}
use Rattle.nt_const.specs.Tables.{Counts, IsWidth}
use Rattle.nt_const.specs.Rules.{Names, Faulty}
use Rattle.nt_const.specs.Tells.{Means, refusal}
use Rattle.nt_kinds.specs.declared.kind.Kind.{Kind}
use Rattle.nt_kinds.specs.declared.kind.Kind.TheVariants as kind
use Rattle.nt_kinds.specs.Kinds.{span, IsSmall}
use Rattle.nt_type_trees.specs.declared.seen.TypeSeen.TheVariants as seen
use Rattle.nt_type_trees.specs.Types.{TypeNode, type_place, Dim, Types, IsBound, AreDims, arrays, IsKind, AreMembers}

-- of a bound: one of a constant expression, or T3 at it
pub data BoundFault (k : Names) (x : Expr) : Refusal → Type 0 where
  in_value : (r : Refusal) → Faulty k (out-Expr x) r.rule r.place → BoundFault k x r
  no_count : {v : LeafValue} → Means k (out-Expr x) None v → (Counts v → ⊥) → BoundFault k x (refusal rule.T3 (place_of (out-Expr x)))

-- of a dimension: a size of 0 is T3 at it
pub data DimFault (k : Names) : Dim → Refusal → Type 0 where
  in_left : {x : Expr} {y : Option Expr} {r : Refusal} → BoundFault k x r → DimFault k (x, y) r
  in_right : {x y : Expr} {r : Refusal} → BoundFault k y r → DimFault k (x, Some y) r
  no_size : {x : Expr} → IsBound k x 0 → DimFault k (x, None) (refusal rule.T3 (place_of (out-Expr x)))

pub data DimsFault (k : Names) (dims : List Dim) (r : Refusal) : Type 0 where
  in_dim : (i : ℕ) (d : Dim) → slice_get dims i ≡ Some d → DimFault k d r → DimsFault k dims r

mutual
  pub data TypeFault (k : Names) (ts : Types) : TypeNode → Refusal → Type 0 where
    in_left_bound : {x y : Expr} {r : Refusal} (at : Place) (word : IntWord) (signed : Option Bool)
        → BoundFault k x r → TypeFault k ts (TypeTree-F.Integral at word signed (Some (x, y))) r
    in_right_bound : {x y : Expr} {r : Refusal} (at : Place) (word : IntWord) (signed : Option Bool)
        → BoundFault k y r → TypeFault k ts (TypeTree-F.Integral at word signed (Some (x, y))) r
    -- T2: a width over 64
    too_wide : {x y : Expr} {a b : ℕ} (at : Place) (word : IntWord) (signed : Option Bool)
        → IsBound k x a → IsBound k y b → (IsWidth (span a b) → ⊥) → TypeFault k ts (TypeTree-F.Integral at word signed (Some (x, y))) (refusal rule.T2 at)
    in_member : {ms : List (TypeTree × Declared)} {r : Refusal} (at : Place) (i : ℕ) (m : TypeTree × Declared)
        → slice_get ms i ≡ Some m → DeclaredFault k ts m.0 (m.1).dims r → TypeFault k ts (TypeTree-F.Struct at ms) r
    -- T7: over 64 leaves, or too deep
    too_large : {ms : List (TypeTree × Declared)} {kinds : List (List ℕ × Kind)} (at : Place)
        → AreMembers k ts ms kinds → (IsSmall (kind.Struct at kinds) → ⊥) → TypeFault k ts (TypeTree-F.Struct at ms) (refusal rule.T7 at)
    -- what is wrong with the declaration of the type that a name stands for
    in_type : (r : Refusal) (at : Place) (path : Path) → ts path ≡ seen.Faulty r → TypeFault k ts (TypeTree-F.Named at path) r
    no_name : (at : Place) (path : Path) → ts path ≡ seen.Unknown → TypeFault k ts (TypeTree-F.Named at path) (refusal rule.T4 path.at)
    no_type : (at : Place) (path : Path) → ts path ≡ seen.Other → TypeFault k ts (TypeTree-F.Named at path) (refusal rule.T6 path.at)
    two_imports : (at : Place) (path : Path) → ts path ≡ seen.Ambiguous → TypeFault k ts (TypeTree-F.Named at path) (refusal rule.T9 path.at)
    void : (at : Place) → TypeFault k ts (TypeTree-F.Void at) (refusal rule.T6 at)

  pub data DeclaredFault (k : Names) (ts : Types) : TypeTree → List Dim → Refusal → Type 0 where
    in_element : {t : TypeTree} {dims : List Dim} {r : Refusal} → TypeFault k ts (out-TypeTree t) r → DeclaredFault k ts t dims r
    in_dims : {t : TypeTree} {dims : List Dim} {r : Refusal} → DimsFault k dims r → DeclaredFault k ts t dims r
    too_many : {t : TypeTree} {dims : List Dim} {x : Kind} {spans : List (ℕ × ℕ)}
        → IsKind k ts (out-TypeTree t) x → AreDims k dims spans → (IsSmall (arrays spans x) → ⊥) → DeclaredFault k ts t dims (refusal rule.T7 (type_place (out-TypeTree t)))

pub data MembersFault (k : Names) (ts : Types) (ms : List (TypeTree × Declared)) (r : Refusal) : Type 0 where
  member_fault : (i : ℕ) (m : TypeTree × Declared) → slice_get ms i ≡ Some m → DeclaredFault k ts m.0 (m.1).dims r → MembersFault k ts ms r
