-- A type tree stands for one type, and has a fault only where it stands for none.
use Rattle.std.proofs.Common.{◌≡◌, ℕ, zero, suc, ◌-◌, List, ◌∷◌, refl, sym, ap, ◌∙◌, subst, arith}
use Rattle.std.specs.Prelude.{Some, None, slice_get}
use Rattle.nt_value.specs.Digits.{LeafValue}
use Rattle.nt_value.specs.Operators.{resize_of}
use Rattle.nt_diag.specs.declared.refusal.Refusal.{Refusal}
use Rattle.nt_ast.specs.declared.path.Declared.{Declared}
use Rattle.nt_ast.specs.declared.expr.Expr.{Expr}
use Rattle.nt_ast.specs.declared.types.TypeTree.{TypeTree}
use Rattle.nt_ast.specs.Places.{Node}
use Rattle.nt_const.specs.Tables.{Counts, IsWidth, count_of}
use Rattle.nt_const.specs.Rules.{Names}
use Rattle.nt_const.specs.Tells.{Means}
use Rattle.nt_const.proofs.Answered.{ap2, alone_one, within_one}
use Rattle.nt_const.proofs.Faults.{no_faulty}
use Rattle.nt_kinds.specs.declared.kind.Kind.{Kind}
use Rattle.nt_kinds.specs.declared.kind.Kind.TheVariants as kind
use Rattle.nt_kinds.specs.Kinds.{span, IsSmall}
use Rattle.nt_type_trees.specs.declared.seen.TypeSeen.{TypeSeen}
use Rattle.nt_type_trees.specs.declared.seen.TypeSeen.TheVariants as seen
use Rattle.nt_type_trees.specs.Types.{TypeNode, Dim, Types, IsBound, IsDim, by_bounds, by_size, AreDims, no_dims, more_dims, arrays, IsKind, plain, ranged, ranged_kind, structure, named, IsDeclared, declared, AreMembers, no_members, more_members}
use Rattle.nt_type_trees.specs.Faults.{BoundFault, in_value, no_count, DimFault, in_left, in_right, no_size, DimsFault, in_dim, TypeFault, in_left_bound, in_right_bound, too_wide, in_member, too_large, in_type, no_name, no_type, two_imports, void, DeclaredFault, in_element, in_dims, too_many}
use Rattle.nt_type_trees.specs.Laws.{OneType}

means_one : {k : Names} {x : Node} {v w : LeafValue} → Means k x None v → Means k x None w → v ≡ w
means_one m n = let l = alone_one m.alone n.alone in m.is ∙ ap2 resize_of (within_one m.value_within n.value_within l) l ∙ sym n.is

pub bound_one : {k : Names} {x : Expr} {n m : ℕ} → IsBound k x n → IsBound k x m → n ≡ m
bound_one b c = b.is ∙ ap count_of (means_one b.means c.means) ∙ sym c.is

pub no_bound : {k : Names} {x : Expr} {n : ℕ} {r : Refusal} → BoundFault k x r → IsBound k x n → ⊥
no_bound (in_value r f) b = no_faulty b.means.alone f
no_bound (no_count m c) b = c (subst (λ v. Counts v) (means_one b.means m) b.counts)

dim_one : {k : Names} {d : Dim} {s t : ℕ × ℕ} → IsDim k d s → IsDim k d t → s ≡ t
dim_one (by_bounds a b) (by_bounds c d) = ap2 (λ (a b : ℕ). (a, b)) (bound_one a c) (bound_one b d)
dim_one (by_size a le) (by_size b lf) = ap (λ (n : ℕ). (0, n - 1)) (bound_one a b)

pub no_dim : {k : Names} {d : Dim} {s : ℕ × ℕ} {r : Refusal} → DimFault k d r → IsDim k d s → ⊥
no_dim (in_left f) (by_bounds a b) = no_bound f a
no_dim (in_left f) (by_size a le) = no_bound f a
no_dim (in_right f) (by_bounds a b) = no_bound f b
no_dim (no_size z) (by_size a le) = let e = bound_one a z in absurd (omega (arith, e, le))

pub dims_one : {k : Names} {ds : List Dim} {ss ts : List (ℕ × ℕ)} → AreDims k ds ss → AreDims k ds ts → ss ≡ ts
dims_one no_dims no_dims = refl
dims_one (more_dims a b) (more_dims c d) = ap2 (λ (s : ℕ × ℕ) (ss : List (ℕ × ℕ)). s ∷ ss) (dim_one a c) (dims_one b d)

dim_at : {k : Names} {ds : List Dim} {ss : List (ℕ × ℕ)} → AreDims k ds ss → (i : ℕ) (d : Dim) → slice_get ds i ≡ Some d → (s : ℕ × ℕ) × IsDim k d s
dim_at no_dims i d e = cc
dim_at {k = k} (more_dims {d = c} {s = s} a b) zero d e = let f : c ≡ d = cc in (s, subst (λ d. IsDim k d s) f a)
dim_at (more_dims a b) (suc i) d e = dim_at b i d e

pub no_dims_fault : {k : Names} {ds : List Dim} {ss : List (ℕ × ℕ)} {r : Refusal} → DimsFault k ds r → AreDims k ds ss → ⊥
no_dims_fault (in_dim i d e f) a = no_dim f (dim_at a i d e).1

known_kind : {a : TypeSeen} {x y : Kind} → a ≡ seen.Known x → a ≡ seen.Known y → x ≡ y
known_kind e f = cc

mutual
  pub kind_one : {k : Names} {ts : Types} {t : TypeNode} {x y : Kind} → IsKind k ts t x → IsKind k ts t y → x ≡ y
  kind_one (plain at word signed) (plain _ _ _) = refl
  kind_one (ranged at word signed x y a b w) (ranged _ _ _ _ _ c d v) = ap2 (ranged_kind word signed) (bound_one a c) (bound_one b d)
  kind_one (structure at ms small) (structure _ ns little) = ap (kind.Struct at) (members_one ms ns)
  kind_one (named at path e d) (named _ _ f g) = known_kind e f

  pub declared_one : {k : Names} {ts : Types} {t : TypeTree} {dims : List Dim} {x y : Kind} → IsDeclared k ts t dims x → IsDeclared k ts t dims y → x ≡ y
  declared_one (declared a b s) (declared c d u) = ap2 arrays (dims_one b d) (kind_one a c)

  pub members_one : {k : Names} {ts : Types} {ms : List (TypeTree × Declared)} {xs ys : List (List ℕ × Kind)} → AreMembers k ts ms xs → AreMembers k ts ms ys → xs ≡ ys
  members_one no_members no_members = refl
  members_one (more_members {d = d} a b) (more_members c e) = ap2 (λ (x : Kind) (xs : List (List ℕ × Kind)). (d.name, x) ∷ xs) (declared_one a c) (members_one b e)

member_at : {k : Names} {ts : Types} {ms : List (TypeTree × Declared)} {xs : List (List ℕ × Kind)} → AreMembers k ts ms xs → (i : ℕ) (m : TypeTree × Declared)
    → slice_get ms i ≡ Some m → (x : Kind) × IsDeclared k ts m.0 (m.1).dims x
member_at no_members i m e = cc
member_at {k = k} {ts = ts} (more_members {t = t} {d = d} {x = x} a b) zero m e = let f : (t, d) ≡ m = cc in (x, subst (λ (m : TypeTree × Declared). IsDeclared k ts m.0 (m.1).dims x) f a)
member_at (more_members a b) (suc i) m e = member_at b i m e

mutual
  pub no_kind : {k : Names} {ts : Types} {t : TypeNode} {x : Kind} {r : Refusal} → TypeFault k ts t r → IsKind k ts t x → ⊥
  no_kind (in_left_bound at word signed f) (ranged _ _ _ _ _ a b w) = no_bound f a
  no_kind (in_right_bound at word signed f) (ranged _ _ _ _ _ a b w) = no_bound f b
  no_kind (too_wide at word signed a b w) (ranged _ _ _ _ _ c d v) = w (subst (λ n. IsWidth n) (ap2 span (bound_one c a) (bound_one d b)) v)
  no_kind (in_member at i m e f) (structure _ ms small) = no_declared f (member_at ms i m e).1
  no_kind (too_large at ms n) (structure _ ns small) = n (subst (λ xs. IsSmall (kind.Struct at xs)) (members_one ns ms) small)
  no_kind (in_type r at path e) (named _ _ g d) = cc
  no_kind (no_name at path e) (named _ _ g d) = cc
  no_kind (no_type at path e) (named _ _ g d) = cc
  no_kind (two_imports at path e) (named _ _ g d) = cc
  no_kind (void at) a = elim a [ ]

  pub no_declared : {k : Names} {ts : Types} {t : TypeTree} {dims : List Dim} {x : Kind} {r : Refusal} → DeclaredFault k ts t dims r → IsDeclared k ts t dims x → ⊥
  no_declared (in_element f) (declared a b s) = no_kind f a
  no_declared (in_dims f) (declared a b s) = no_dims_fault f b
  no_declared (too_many a b n) (declared c d s) = n (subst (λ x. IsSmall x) (ap2 arrays (dims_one d b) (kind_one c a)) s)

pub no_members_fault : {k : Names} {ts : Types} {ms : List (TypeTree × Declared)} {xs : List (List ℕ × Kind)} {r : Refusal} (i : ℕ) (m : TypeTree × Declared)
    → slice_get ms i ≡ Some m → DeclaredFault k ts m.0 (m.1).dims r → AreMembers k ts ms xs → ⊥
no_members_fault i m e f a = no_declared f (member_at a i m e).1

pub one_type_holds : OneType
one_type_holds =
    record {
      one = λ k ts t x y a b. kind_one a b;
      one_declared = λ k ts t dims x y a b. declared_one a b;
      faultless = λ k ts t x r a f. no_kind f a;
      declared_faultless = λ k ts t dims x r a f. no_declared f a;
    }
