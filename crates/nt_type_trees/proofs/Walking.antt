-- The answers of the walk, part by part.
use Rattle.std.proofs.Common.{◌≡◌, ℕ, zero, suc, ◌+◌, ◌-◌, ◌<◌, ◌≤◌, ◌⊎◌, inl, inr, Bool, true, false, cond, List, [], ◌∷◌, ◌++◌, length, take, get_or, refl, sym, ap, ◌∙◌, subst, arith}
use Rattle.std.specs.Prelude.{Option, Some, None, Result, Ok, Err, IfOk, slice_get, nat_le}
use denote.Hole.Carrier.{roll}
use Rattle.nt_ast.specs.declared.types.TypeTree.TheVariants as t
use Rattle.std.proofs.lemmas.Bool.{cases_Bool, cases_eq, eq-eqb, ne_eqb, leb-true, leb-false}
use Rattle.std.proofs.lemmas.Option.{slice_get_read, slice_get_within}
use Rattle.nt_value.specs.declared.place.Place.{Place}
use Rattle.nt_diag.specs.declared.refusal.Refusal.{Refusal}
use Rattle.nt_diag.specs.declared.rule.Rule.TheVariants as rule
use Rattle.nt_ast.specs.declared.path.Path.{Path}
use Rattle.nt_ast.specs.declared.path.Declared.{Declared}
use Rattle.nt_ast.specs.declared.expr.Expr.{Expr}
use Rattle.nt_ast.specs.declared.expr.Expr.TheViews.{out-Expr}
use Rattle.nt_ast.specs.declared.types.IntWord.{IntWord}
use Rattle.nt_ast.specs.declared.types.TypeTree.{TypeTree}
use Rattle.nt_ast.specs.declared.types.TypeTree.TheOpen.{TypeTree-F}
use Rattle.nt_ast.specs.declared.types.TypeTree.TheViews.{out-TypeTree, roll-TypeTree, out-roll-TypeTree}
use Rattle.nt_ast.specs.Places.{place_of}
use Rattle.nt_const.specs.Tables.{IsWidth}
use Rattle.nt_const.specs.Rules.{Names}
use Rattle.nt_const.specs.Tells.{refusal}
use Rattle.nt_kinds.specs.declared.kind.Kind.{Kind}
use Rattle.nt_kinds.specs.declared.kind.Kind.TheVariants as kind
use Rattle.nt_kinds.specs.Kinds.{span, levels, IsSmall}
use Rattle.nt_kinds.proofs.Opening.{levels_array}
use Rattle.nt_kinds.proofs.Counting.{get_left, take_more}
use Rattle.nt_type_trees.specs.declared.seen.TypeSeen.TheVariants as seen
use Rattle.nt_type_trees.specs.Types.{TypeNode, type_place, Dim, Types, IsType, IsBound, IsDim, by_bounds, by_size, AreDims, no_dims, more_dims, arrays, IsKind, plain, plain_kind, ranged, ranged_kind, structure, named, IsDeclared, declared, AreMembers, no_members, more_members}
use Rattle.nt_type_trees.specs.Faults.{BoundFault, DimFault, in_left, in_right, no_size, DimsFault, in_dim, TypeFault, in_left_bound, in_right_bound, too_wide, in_member, too_large, in_type, no_name, no_type, two_imports, void, DeclaredFault, in_element, in_dims, too_many, MembersFault, member_fault}
use Rattle.nt_type_trees.specs.Tells.{InOrder, DimsInOrder}
use Rattle.nt_type_trees.specs.Answers.{Told, gives, refuses, both_of, extended, extended_by, with_name, sized, ranged_of, small, large, Structure, of_members, of_none, Arrays, of_both, of_fault, ExprInOrder, MembersInOrder, TellsBound, TellsDim, TellsDims, TellsKind, TellsDeclared, TellsMembers}
use Rattle.nt_type_trees.proofs.One.{bound_one, no_bound, no_dims_fault, no_kind, no_declared, no_members_fault}
use Rattle.nt_type_trees.proofs.Joining.{told_both, told_as, only_fault}
use Rattle.nt_type_trees.proofs.Placing.{range_in_order, dim_in_order, struct_in_order}

-- ---- a dimension
from_bounds : {k : Names} {x y : Expr} {r : Refusal} → DimFault k (x, Some y) r → BoundFault k x r ⊎ BoundFault k y r
from_bounds (in_left f) = inl f
from_bounds (in_right f) = inr f

pub dim_by_bounds : {k : Names} {x y : Expr} {a b : Result ℕ Refusal} → TellsBound k x a → TellsBound k y b → TellsDim k (x, Some y) (both_of a b)
dim_by_bounds {y = y} p q = told_as (told_both p q) (λ o. (o.left, o.right y refl)) (λ s g. by_bounds g.0 g.1) (λ r h. elim h [ inl f ↦ in_left f | inr f ↦ in_right f ]) (λ r h. from_bounds h)

one_or_more : (n : ℕ) → (n ≡ 0 → ⊥) → 1 ≤ n
one_or_more zero ne = absurd (ne refl)
one_or_more (suc n) ne = omega arith

sized_none : (at : Place) (n : ℕ) → n ≡ 0 → sized at (Ok n) ≡ Err (refusal rule.T3 at)
sized_none at n e = ap (λ b. cond b (Err (refusal rule.T3 at)) (Ok (0, n - 1))) (eq-eqb n 0 e)

sized_some : (at : Place) (n : ℕ) → (n ≡ 0 → ⊥) → sized at (Ok n) ≡ Ok (0, n - 1)
sized_some at n ne = ap (λ b. cond b (Err (refusal rule.T3 at)) (Ok (0, n - 1))) (ne_eqb n 0 ne)

only_size : {k : Names} {x : Expr} {n : ℕ} → IsBound k x n → (s : Refusal) → DimFault k (x, None) s → s ≡ refusal rule.T3 (place_of (out-Expr x))
only_size b s (in_left f) = absurd (no_bound f b)
only_size b s (no_size z) = refl

no_size_fault : {k : Names} {x : Expr} {n : ℕ} → IsBound k x n → (n ≡ 0 → ⊥) → (s : Refusal) → DimFault k (x, None) s → ⊥
no_size_fault b ne s (in_left f) = no_bound f b
no_size_fault b ne s (no_size z) = ne (bound_one b z)

only_left : {k : Names} {x : Expr} {r : Refusal} → DimFault k (x, None) r → ((n : ℕ) → IsBound k x n → ⊥) → BoundFault k x r
only_left (in_left f) none = f
only_left (no_size z) none = absurd (none 0 z)

pub dim_by_size : {k : Names} {x : Expr} {a : Result ℕ Refusal} (at : Place) → at ≡ place_of (out-Expr x) → TellsBound k x a → TellsDim k (x, None) (sized at a)
dim_by_size {k = k} {x = x} at e (gives n b none) = elim (cases_eq n 0) [
  | inl z ↦ subst (λ r. TellsDim k (x, None) r) (sym (sized_none at n z ∙ ap (λ p. Err (refusal rule.T3 p)) e))
      (let f : DimFault k (x, None) (refusal rule.T3 (place_of (out-Expr x))) = no_size (subst (λ n. IsBound k x n) z b) in
      refuses _ f (λ o s h. only_fault (DimFault k (x, None)) _ f (only_size b) s h))
  | inr ne ↦ subst (λ r. TellsDim k (x, None) r) (sym (sized_some at n ne)) (gives (0, n - 1) (by_size b (one_or_more n ne)) (no_size_fault b ne))
]
dim_by_size at e (refuses r f l) = refuses r (in_left f) (λ o s h. l o.left s (only_left h (λ n b. no_bound f b)))

-- ---- lists that grow
snoc_dims : {k : Names} {ds : List Dim} {ss : List (ℕ × ℕ)} {d : Dim} {s : ℕ × ℕ} → AreDims k ds ss → IsDim k d s → AreDims k (ds ++ d ∷ []) (ss ++ s ∷ [])
snoc_dims no_dims b = more_dims b no_dims
snoc_dims (more_dims a as') b = more_dims a (snoc_dims as' b)

get_last : {A : Type 0} (xs : List A) (x : A) → slice_get (xs ++ x ∷ []) (length xs) ≡ Some x
get_last [] x = refl
get_last (y ∷ xs) x = get_last xs x

-- an item of a list and one more is one of the list, or the one more
one_of : {A : Type 0} (xs : List A) (x : A) (n : ℕ) (y : A) → slice_get (xs ++ x ∷ []) n ≡ Some y → (slice_get xs n ≡ Some y) ⊎ (x ≡ y)
one_of [] x zero y e = let f : x ≡ y = cc in inr f
one_of [] x (suc n) y e = cc
one_of (z ∷ xs) x zero y e = inl e
one_of (z ∷ xs) x (suc n) y e = one_of xs x n y e

earlier_one : {A : Type 0} (xs : List A) (x : A) (n : ℕ) (y : A) → slice_get xs n ≡ Some y → slice_get (xs ++ x ∷ []) n ≡ Some y
earlier_one xs x n y e = get_left xs (x ∷ []) n (slice_get_within xs n y e) ∙ e

more_dims_fault : {k : Names} {ds : List Dim} {d : Dim} {r : Refusal} → DimsFault k ds r ⊎ DimFault k d r → DimsFault k (ds ++ d ∷ []) r
more_dims_fault {ds = ds} {d = d} (inl (in_dim n c e f)) = in_dim n c (earlier_one ds d n c e) f
more_dims_fault {ds = ds} {d = d} (inr f) = in_dim (length ds) d (get_last ds d) f

dims_fault_cases : {k : Names} {ds : List Dim} {d : Dim} {r : Refusal} → DimsFault k (ds ++ d ∷ []) r → DimsFault k ds r ⊎ DimFault k d r
dims_fault_cases {k = k} {ds = ds} {d = d} {r = r} (in_dim n c e f) = elim (one_of ds d n c e) [
  | inl g ↦ inl (in_dim n c g f)
  | inr g ↦ inr (subst (λ d. DimFault k d r) (sym g) f)
]

told_extended : {A P : Type 0} {G : List A × A → Type 0} {H : List A → Type 0} {F E : Refusal → Type 0} {r : Result (List A × A) Refusal}
    → Told P G F r → ((p : List A × A) → G p → H (p.0 ++ p.1 ∷ [])) → ((r : Refusal) → F r → E r) → ((r : Refusal) → E r → F r) → Told P H E (extended_by r)
told_extended (gives p g n) h to from = gives (p.0 ++ p.1 ∷ []) (h p g) (λ r e. n r (from r e))
told_extended (refuses r f l) h to from = refuses r (to r f) (λ q s e. l q s (from s e))

-- what is told of the first dimensions
pub record DimsSoFar (k : Names) (ds : List Dim) (i : ℕ) (all : Result (List (ℕ × ℕ)) Refusal) : Type 0 where
  pub told : Told (DimsInOrder ds) (AreDims k (take i ds)) (DimsFault k (take i ds)) all

no_fault_yet : {k : Names} (r : Refusal) → DimsFault k [] r → ⊥
no_fault_yet r (in_dim n d e f) = cc

pub dims_start : (k : Names) (ds : List Dim) → DimsSoFar k ds 0 (Ok [])
dims_start k ds = record { told = gives [] no_dims no_fault_yet }

pub dims_turn : {k : Names} {ds : List Dim} {i : ℕ} {all : Result (List (ℕ × ℕ)) Refusal} {one : Result (ℕ × ℕ) Refusal} (d : Dim) → i < length ds → d ≡ get_or ds i d
    → DimsSoFar k ds i all → TellsDim k d one → DimsSoFar k ds (i + 1) (extended all one)
dims_turn {k = k} {ds = ds} {i = i} {all = all} {one = one} d lt at so t =
    let more = take_more ds i d lt at in
    record {
      told = subst (λ es. Told (DimsInOrder ds) (AreDims k es) (DimsFault k es) (extended all one)) (sym more)
          (told_extended (told_as (told_both so.told t) (λ o. (o, dim_in_order o i d (slice_get_read ds (length ds) i d refl lt at))) (λ p g. g) (λ r f. f) (λ r f. f))
          (λ p g. snoc_dims g.0 g.1) (λ r f. more_dims_fault f) (λ r f. dims_fault_cases f));
    }

take_whole : {A : Type 0} (xs : List A) (n : ℕ) → length xs ≤ n → take n xs ≡ xs
take_whole [] zero le = refl
take_whole [] (suc n) le = refl
take_whole (x ∷ xs) zero le = absurd (omega arith)
take_whole (x ∷ xs) (suc n) le = ap (λ ys. x ∷ ys) (take_whole xs n (omega arith))

pub dims_end : {k : Names} {ds : List Dim} {i : ℕ} {all : Result (List (ℕ × ℕ)) Refusal} → length ds ≤ i → DimsSoFar k ds i all → TellsDims k ds all
dims_end {k = k} {ds = ds} {i = i} {all = all} le so = subst (λ es. Told (DimsInOrder ds) (AreDims k es) (DimsFault k es) all) (take_whole ds i le) so.told

-- ---- an integral type
width_in : (left right : ℕ) → nat_le (span left right) 64 ≡ true → IsWidth (span left right)
width_in left right e = let f = leb-true (span left right) 64 e in (omega arith, f)

width_out : (left right : ℕ) → nat_le (span left right) 64 ≡ false → IsWidth (span left right) → ⊥
width_out left right e w = let f = leb-false (span left right) 64 e in let g = w.1 in absurd (omega (arith, f, g))

module _ {k : Names} {ts : Types} where
  only_width : {x y : Expr} {s : Refusal} (at : Place) (word : IntWord) (signed : Option Bool) → ((r : Refusal) → BoundFault k x r ⊎ BoundFault k y r → ⊥)
      → TypeFault k ts (TypeTree-F.Integral at word signed (Some (x, y))) s → s ≡ refusal rule.T2 at
  only_width at word signed n (in_left_bound _ _ _ f) = absurd (n _ (inl f))
  only_width at word signed n (in_right_bound _ _ _ f) = absurd (n _ (inr f))
  only_width at word signed n (too_wide _ _ _ a b w) = refl

  bound_faults : {x y : Expr} {r s : Refusal} {at : Place} {word : IntWord} {signed : Option Bool} → BoundFault k x r ⊎ BoundFault k y r
      → TypeFault k ts (TypeTree-F.Integral at word signed (Some (x, y))) s → BoundFault k x s ⊎ BoundFault k y s
  bound_faults h (in_left_bound _ _ _ f) = inl f
  bound_faults h (in_right_bound _ _ _ f) = inr f
  bound_faults (inl f) (too_wide _ _ _ a b w) = absurd (no_bound f a)
  bound_faults (inr f) (too_wide _ _ _ a b w) = absurd (no_bound f b)

  as_range : {x y : Expr} {r : Refusal} (at : Place) (word : IntWord) (signed : Option Bool) → BoundFault k x r ⊎ BoundFault k y r → TypeFault k ts (TypeTree-F.Integral at word signed (Some (x, y))) r
  as_range at word signed (inl f) = in_left_bound at word signed f
  as_range at word signed (inr f) = in_right_bound at word signed f

  range_told : {x y : Expr} {bs : Result (ℕ × ℕ) Refusal} (at : Place) (word : IntWord) (signed : Option Bool)
      → Told (ExprInOrder x × ExprInOrder y) (λ (p : ℕ × ℕ). IsBound k x p.0 × IsBound k y p.1) (λ r. BoundFault k x r ⊎ BoundFault k y r) bs
      → TellsKind k ts (TypeTree-F.Integral at word signed (Some (x, y))) (ranged_of at word signed bs)
  range_told {x = x} {y = y} at word signed (gives p g n) =
      let t : TypeNode = TypeTree-F.Integral at word signed (Some (x, y)) in
      let yes : Result Kind Refusal = Ok (ranged_kind word signed p.0 p.1) in
      let no : Result Kind Refusal = Err (refusal rule.T2 at) in
      elim (cases_Bool (nat_le (span p.0 p.1) 64)) [
        | inl e ↦ subst (λ r. TellsKind k ts t r) (sym (ap (λ b. cond b yes no) e))
            (let i : IsKind k ts t (ranged_kind word signed p.0 p.1) = ranged at word signed x y g.0 g.1 (width_in p.0 p.1 e) in gives _ i (λ r f. no_kind f i))
        | inr e ↦ subst (λ r. TellsKind k ts t r) (sym (ap (λ b. cond b yes no) e))
            (let f : TypeFault k ts t (refusal rule.T2 at) = too_wide at word signed g.0 g.1 (width_out p.0 p.1 e) in
            refuses _ f (λ o s h. only_fault (TypeFault k ts t) _ f (λ s h. only_width at word signed n h) s h))
      ]
  range_told at word signed (refuses r f l) = refuses r (as_range at word signed f) (λ o s h. l (range_in_order o) s (bound_faults f h))

  pub kind_ranged : {x y : Expr} {a b : Result ℕ Refusal} (at : Place) (word : IntWord) (signed : Option Bool) → TellsBound k x a → TellsBound k y b
      → TellsKind k ts (TypeTree-F.Integral at word signed (Some (x, y))) (ranged_of at word signed (both_of a b))
  kind_ranged at word signed p q = range_told at word signed (told_both p q)

  pub kind_plain : (at : Place) (word : IntWord) (signed : Option Bool) → TellsKind k ts (TypeTree-F.Integral at word signed None) (Ok (plain_kind word signed))
  kind_plain at word signed = let i : IsKind k ts (TypeTree-F.Integral at word signed None) (plain_kind word signed) = plain at word signed in gives _ i (λ r f. no_kind f i)

  -- ---- a name
  only_other : {path : Path} {s : Refusal} {at : Place} → ts path ≡ seen.Other → TypeFault k ts (TypeTree-F.Named at path) s → s ≡ refusal rule.T6 path.at
  only_other e (in_type r _ _ f) = cc
  only_other e (no_name _ _ f) = cc
  only_other e (no_type _ _ f) = refl
  only_other e (two_imports _ _ f) = cc

  only_unknown : {path : Path} {s : Refusal} {at : Place} → ts path ≡ seen.Unknown → TypeFault k ts (TypeTree-F.Named at path) s → s ≡ refusal rule.T4 path.at
  only_unknown e (in_type r _ _ f) = cc
  only_unknown e (no_name _ _ f) = refl
  only_unknown e (no_type _ _ f) = cc
  only_unknown e (two_imports _ _ f) = cc

  only_ambiguous : {path : Path} {s : Refusal} {at : Place} → ts path ≡ seen.Ambiguous → TypeFault k ts (TypeTree-F.Named at path) s → s ≡ refusal rule.T9 path.at
  only_ambiguous e (in_type r _ _ f) = cc
  only_ambiguous e (no_name _ _ f) = cc
  only_ambiguous e (no_type _ _ f) = cc
  only_ambiguous e (two_imports _ _ f) = refl

  only_faulty : {path : Path} {r s : Refusal} {at : Place} → ts path ≡ seen.Faulty r → TypeFault k ts (TypeTree-F.Named at path) s → s ≡ r
  only_faulty e (in_type _ _ _ f) = cc
  only_faulty e (no_name _ _ f) = cc
  only_faulty e (no_type _ _ f) = cc
  only_faulty e (two_imports _ _ f) = cc

  pub kind_known : {path : Path} {x : Kind} (at : Place) → seen.Known x ≡ ts path → IsType x → TellsKind k ts (TypeTree-F.Named at path) (Ok x)
  kind_known {path = path} {x = x} at e w = let i = named at path (sym e) w in gives x i (λ r f. no_kind f i)

  pub kind_faulty : {path : Path} {r : Refusal} (at : Place) → seen.Faulty r ≡ ts path → TellsKind k ts (TypeTree-F.Named at path) (Err r)
  kind_faulty {path = path} {r = r} at e =
      let f : TypeFault k ts (TypeTree-F.Named at path) r = in_type r at path (sym e) in
      refuses r f (λ o s h. only_fault (TypeFault k ts (TypeTree-F.Named at path)) r f (λ s h. only_faulty (sym e) h) s h)

  pub kind_other : {path : Path} (at : Place) → seen.Other ≡ ts path → TellsKind k ts (TypeTree-F.Named at path) (Err (refusal rule.T6 path.at))
  kind_other {path = path} at e =
      let f : TypeFault k ts (TypeTree-F.Named at path) (refusal rule.T6 path.at) = no_type at path (sym e) in
      refuses _ f (λ o s h. only_fault (TypeFault k ts (TypeTree-F.Named at path)) _ f (λ s h. only_other (sym e) h) s h)

  pub kind_unknown : {path : Path} (at : Place) → seen.Unknown ≡ ts path → TellsKind k ts (TypeTree-F.Named at path) (Err (refusal rule.T4 path.at))
  kind_unknown {path = path} at e =
      let f : TypeFault k ts (TypeTree-F.Named at path) (refusal rule.T4 path.at) = no_name at path (sym e) in
      refuses _ f (λ o s h. only_fault (TypeFault k ts (TypeTree-F.Named at path)) _ f (λ s h. only_unknown (sym e) h) s h)

  pub kind_ambiguous : {path : Path} (at : Place) → seen.Ambiguous ≡ ts path → TellsKind k ts (TypeTree-F.Named at path) (Err (refusal rule.T9 path.at))
  kind_ambiguous {path = path} at e =
      let f : TypeFault k ts (TypeTree-F.Named at path) (refusal rule.T9 path.at) = two_imports at path (sym e) in
      refuses _ f (λ o s h. only_fault (TypeFault k ts (TypeTree-F.Named at path)) _ f (λ s h. only_ambiguous (sym e) h) s h)

  only_void : {s : Refusal} (at : Place) → TypeFault k ts (TypeTree-F.Void at) s → s ≡ refusal rule.T6 at
  only_void at (void _) = refl

  pub kind_void : (at : Place) → TellsKind k ts (TypeTree-F.Void at) (Err (refusal rule.T6 at))
  kind_void at = let f : TypeFault k ts (TypeTree-F.Void at) (refusal rule.T6 at) = void at in
      refuses _ f (λ o s h. only_fault (TypeFault k ts (TypeTree-F.Void at)) _ f (λ s h. only_void at h) s h)

  -- ---- a structure
  only_large : {ms : List (TypeTree × Declared)} {s : Refusal} (at : Place) → ((r : Refusal) → MembersFault k ts ms r → ⊥) → TypeFault k ts (TypeTree-F.Struct at ms) s → s ≡ refusal rule.T7 at
  only_large at n (in_member _ i m e f) = absurd (n _ (member_fault i m e f))
  only_large at n (too_large _ a l) = refl

  member_faults : {ms : List (TypeTree × Declared)} {r s : Refusal} {at : Place} → MembersFault k ts ms r → TypeFault k ts (TypeTree-F.Struct at ms) s → MembersFault k ts ms s
  member_faults h (in_member _ i m e f) = member_fault i m e f
  member_faults {at = at} (member_fault i m e f) (too_large _ a l) = absurd (no_members_fault i m e f a)

  pub kind_struct : {ms : List (TypeTree × Declared)} {a : Result (List (List ℕ × Kind)) Refusal} {r : Result Kind Refusal} (at : Place)
      → TellsMembers k ts ms a → Structure at a r → TellsKind k ts (TypeTree-F.Struct at ms) r
  kind_struct {ms = ms} at (gives xs g n) (of_members (small s)) = let i : IsKind k ts (TypeTree-F.Struct at ms) (kind.Struct at xs) = structure at g s in gives _ i (λ r f. no_kind f i)
  kind_struct {ms = ms} at (gives xs g n) (of_members (large l)) =
      let f : TypeFault k ts (TypeTree-F.Struct at ms) (refusal rule.T7 at) = too_large at g l in
      refuses _ f (λ o s h. only_fault (TypeFault k ts (TypeTree-F.Struct at ms)) _ f (λ s h. only_large at n h) s h)
  kind_struct at (refuses r (member_fault i m e f) l) (of_none _) =
      refuses r (in_member at i m e f) (λ o s h. l (struct_in_order o) s (member_faults (member_fault i m e f) h))

  -- ---- a name that is declared
  only_many : {t : TypeTree} {dims : List Dim} {s : Refusal} → ((r : Refusal) → TypeFault k ts (out-TypeTree t) r ⊎ DimsFault k dims r → ⊥) → DeclaredFault k ts t dims s → s ≡ refusal rule.T7 (type_place (out-TypeTree t))
  only_many n (in_element f) = absurd (n _ (inl f))
  only_many n (in_dims f) = absurd (n _ (inr f))
  only_many n (too_many a b l) = refl

  part_faults : {t : TypeTree} {dims : List Dim} {r s : Refusal} → TypeFault k ts (out-TypeTree t) r ⊎ DimsFault k dims r → DeclaredFault k ts t dims s → TypeFault k ts (out-TypeTree t) s ⊎ DimsFault k dims s
  part_faults h (in_element f) = inl f
  part_faults h (in_dims f) = inr f
  part_faults (inl f) (too_many a b l) = absurd (no_kind f a)
  part_faults (inr f) (too_many a b l) = absurd (no_dims_fault f b)

  as_declared : {t : TypeTree} {dims : List Dim} {r : Refusal} → TypeFault k ts (out-TypeTree t) r ⊎ DimsFault k dims r → DeclaredFault k ts t dims r
  as_declared (inl f) = in_element f
  as_declared (inr f) = in_dims f

  arrays_told : {t : TypeTree} {dims : List Dim} {bs : Result (Kind × List (ℕ × ℕ)) Refusal} {r : Result Kind Refusal} (at : Place) → at ≡ type_place (out-TypeTree t)
      → Told (InOrder (out-TypeTree t) × DimsInOrder dims) (λ (p : Kind × List (ℕ × ℕ)). IsKind k ts (out-TypeTree t) p.0 × AreDims k dims p.1) (λ r. TypeFault k ts (out-TypeTree t) r ⊎ DimsFault k dims r) bs
      → Arrays at bs r → TellsDeclared k ts t dims r
  arrays_told at e (gives p g n) (of_both (small s)) = let i = declared g.0 g.1 s in gives _ i (λ r f. no_declared f i)
  arrays_told {t = t} {dims = dims} at e (gives p g n) (of_both (large l)) =
      let f : DeclaredFault k ts t dims (refusal rule.T7 (type_place (out-TypeTree t))) = too_many g.0 g.1 l in
      subst (λ q. TellsDeclared k ts t dims (Err (refusal rule.T7 q))) (sym e) (refuses _ f (λ o s h. only_fault (DeclaredFault k ts t dims) _ f (λ s h. only_many n h) s h))
  arrays_told at e (refuses r f l) (of_fault _) = refuses r (as_declared f) (λ o s h. l o s (part_faults f h))

  pub declared_told : {t : TypeTree} {dims : List Dim} {a : Result Kind Refusal} {b : Result (List (ℕ × ℕ)) Refusal} {r : Result Kind Refusal} (at : Place) → at ≡ type_place (out-TypeTree t)
      → TellsKind k ts (out-TypeTree t) a → TellsDims k dims b → Arrays at (both_of a b) r → TellsDeclared k ts t dims r
  declared_told at e p q w = arrays_told at e (told_both p q) w

-- ---- members
told_named : {P : Type 0} {G : Kind → Type 0} {F : Refusal → Type 0} {one : Result Kind Refusal} (name : List ℕ) → Told P G F one → Told P (λ (p : List ℕ × Kind). (p.0 ≡ name) × G p.1) F (with_name name one)
told_named name (gives x g n) = gives (name, x) (refl, g) n
told_named name (refuses r f l) = refuses r f l

pub record MembersSoFar (k : Names) (ts : Types) (ms : List (TypeTree × Declared)) (i : ℕ) (all : Result (List (List ℕ × Kind)) Refusal) : Type 0 where
  pub told : Told (MembersInOrder ms) (AreMembers k ts (take i ms)) (MembersFault k ts (take i ms)) all

module _ {k : Names} {ts : Types} where
  snoc_members : {ms : List (TypeTree × Declared)} {xs : List (List ℕ × Kind)} {t : TypeTree} {x : Kind} (d : Declared) → AreMembers k ts ms xs → IsDeclared k ts t d.dims x → AreMembers k ts (ms ++ (t, d) ∷ []) (xs ++ (d.name, x) ∷ [])
  snoc_members d no_members b = more_members b no_members
  snoc_members d (more_members a as') b = more_members a (snoc_members d as' b)

  snoc_named : {ms : List (TypeTree × Declared)} (t : TypeTree) (d : Declared) (p : List (List ℕ × Kind) × (List ℕ × Kind)) → AreMembers k ts ms p.0 → (p.1).0 ≡ d.name → IsDeclared k ts t d.dims (p.1).1
      → AreMembers k ts (ms ++ (t, d) ∷ []) (p.0 ++ p.1 ∷ [])
  snoc_named {ms = ms} t d p a e b = subst (λ n. AreMembers k ts (ms ++ (t, d) ∷ []) (p.0 ++ (n, (p.1).1) ∷ [])) (sym e) (snoc_members d a b)

  more_members_fault : {ms : List (TypeTree × Declared)} {r : Refusal} (t : TypeTree) (d : Declared) → MembersFault k ts ms r ⊎ DeclaredFault k ts t d.dims r → MembersFault k ts (ms ++ (t, d) ∷ []) r
  more_members_fault {ms = ms} t d (inl (member_fault n c e f)) = member_fault n c (earlier_one ms (t, d) n c e) f
  more_members_fault {ms = ms} t d (inr f) = member_fault (length ms) (t, d) (get_last ms (t, d)) f

  members_fault_cases : {ms : List (TypeTree × Declared)} {r : Refusal} (t : TypeTree) (d : Declared) → MembersFault k ts (ms ++ (t, d) ∷ []) r → MembersFault k ts ms r ⊎ DeclaredFault k ts t d.dims r
  members_fault_cases {ms = ms} {r = r} t d (member_fault n c e f) = elim (one_of ms (t, d) n c e) [
    | inl g ↦ inl (member_fault n c g f)
    | inr g ↦ inr (subst (λ (m : TypeTree × Declared). DeclaredFault k ts m.0 (m.1).dims r) (sym g) f)
  ]

  no_member_yet : (r : Refusal) → MembersFault k ts [] r → ⊥
  no_member_yet r (member_fault n d e f) = cc

  pub members_start : (ms : List (TypeTree × Declared)) → MembersSoFar k ts ms 0 (Ok [])
  members_start ms = record { told = gives [] no_members no_member_yet }

  pub members_turn : {ms : List (TypeTree × Declared)} {i : ℕ} {all : Result (List (List ℕ × Kind)) Refusal} {one : Result Kind Refusal} (t : TypeTree) (d : Declared) → i < length ms → (t, d) ≡ get_or ms i (t, d)
      → MembersSoFar k ts ms i all → TellsDeclared k ts t d.dims one → MembersSoFar k ts ms (i + 1) (extended all (with_name d.name one))
  members_turn {ms = ms} {i = i} {all = all} {one = one} t d lt at so w =
      let more = take_more ms i (t, d) lt at in
      let is_at : slice_get ms i ≡ Some (t, d) = slice_get_read ms (length ms) i (t, d) refl lt at in
      record {
        told = subst (λ es. Told (MembersInOrder ms) (AreMembers k ts es) (MembersFault k ts es) (extended all (with_name d.name one))) (sym more)
            (told_extended
            (told_as (told_both so.told (told_named d.name w)) (λ o. (o, ((o i (t, d) is_at).of, (o i (t, d) is_at).dims))) (λ p g. g) (λ r f. f) (λ r f. f))
            (λ p g. snoc_named t d p g.0 (g.1).0 (g.1).1) (λ r f. more_members_fault t d f) (λ r f. members_fault_cases t d f));
      }

  pub members_end : {ms : List (TypeTree × Declared)} {i : ℕ} {all : Result (List (List ℕ × Kind)) Refusal} → length ms ≤ i → MembersSoFar k ts ms i all → TellsMembers k ts ms all
  members_end {ms = ms} {i = i} {all = all} le so = subst (λ es. Told (MembersInOrder ms) (AreMembers k ts es) (MembersFault k ts es) all) (take_whole ms i le) so.told

-- ---- many arrays are deep
levels_of_arrays : (ss : List (ℕ × ℕ)) (x : Kind) → length ss ≤ levels (arrays ss x)
levels_of_arrays [] x = omega arith
levels_of_arrays (s ∷ ss) x = let e = levels_array s.0 s.1 (arrays ss x) in let f = levels_of_arrays ss x in omega (arith, e, f)

pub too_deep : (ss : List (ℕ × ℕ)) (x : Kind) → 64 < length ss → IsSmall (arrays ss x) → ⊥
too_deep ss x lt s = let e = levels_of_arrays ss x in let f = s.deep in absurd (omega (arith, e, f, lt))

-- ---- answers that are passed on
pub if_ok_map : {A E : Type 0} (P Q : A → Type 0) (r : Result A E) → ((a : A) → P a → Q a) → IfOk r P → IfOk r Q
if_ok_map P Q (Ok a) f p = f a p
if_ok_map P Q (Err e) f p = p

-- ---- first nodes
pub seen_integral : (x : TypeTree) (at : Place) (word : IntWord) (signed : Option Bool) (r : Option (Expr × Expr)) → x ≡ t.Integral at word signed r → out-TypeTree x ≡ TypeTree-F.Integral at word signed r
unfolding roll-TypeTree roll
seen_integral x at word signed r e = ap out-TypeTree e ∙ out-roll-TypeTree (TypeTree-F.Integral at word signed r)

pub seen_struct : (x : TypeTree) (at : Place) (ms : List (TypeTree × Declared)) → x ≡ t.Struct at ms → out-TypeTree x ≡ TypeTree-F.Struct at ms
unfolding roll-TypeTree roll
seen_struct x at ms e = ap out-TypeTree e ∙ out-roll-TypeTree (TypeTree-F.Struct at ms)

pub seen_named : (x : TypeTree) (at : Place) (path : Path) → x ≡ t.Named at path → out-TypeTree x ≡ TypeTree-F.Named at path
unfolding roll-TypeTree roll
seen_named x at path e = ap out-TypeTree e ∙ out-roll-TypeTree (TypeTree-F.Named at path)

pub seen_void : (x : TypeTree) (at : Place) → x ≡ t.Void at → out-TypeTree x ≡ TypeTree-F.Void at
unfolding roll-TypeTree roll
seen_void x at e = ap out-TypeTree e ∙ out-roll-TypeTree (TypeTree-F.Void at)
