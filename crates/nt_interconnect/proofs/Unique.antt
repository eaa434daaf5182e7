-- A joined net has one answer.
use Rattle.std.proofs.Common.{◌≡◌, ℕ, ◌<◌, ◌≤◌, List, length, Some, Ok, Err, inl, inr, refl, sym, ap, subst, ◌∙◌, arith}
use Rattle.std.specs.Prelude.{slice_get}
use Rattle.std.proofs.lemmas.Bool.{cases_eq, cases_lt}
use Rattle.std.proofs.lemmas.Option.{slice_get_within}
use Rattle.nt_value.specs.declared.leaf.Leaf.{Leaf}
use Rattle.nt_diag.specs.declared.rule.Rule.{Rule}
use Rattle.nt_interconnect.specs.Types.{Declares, leaf, nettype, Matches, takes, has, TypeWithin, untyped, typed, IsUnlike, nettypes, leaves, built_in_first, nettype_first, FirstUnlike, OneType}
use Rattle.nt_interconnect.specs.declared.types.NetType.{NetType}
use Rattle.nt_interconnect.specs.declared.types.NetType.TheVariants as net
use Rattle.nt_interconnect.specs.declared.types.SegmentKind.{SegmentKind}
use Rattle.nt_interconnect.specs.declared.types.SegmentKind.TheVariants as kind
use Rattle.nt_interconnect.specs.declared.types.Unlike.{Unlike}

declares_one : {k : SegmentKind} {s t : NetType} → Declares k s → Declares k t → s ≡ t
declares_one (leaf l) (leaf _) = refl
declares_one (nettype n) (nettype _) = refl

typed_some : {k : SegmentKind} {t : NetType} → Declares k t → t ≡ net.Untyped → ⊥
typed_some (leaf l) e = absurd cc
typed_some (nettype n) e = absurd cc

same_user : (m n : ℕ) → net.User m ≡ net.User n → m ≡ n
same_user m n e = cc e

same_leaf : (l m : Leaf) → net.BuiltIn l ≡ net.BuiltIn m → l ≡ m
same_leaf l m e = cc e

no_interconnect : {k : SegmentKind} {t : NetType} → Declares k t → k ≡ kind.Interconnect → ⊥
no_interconnect (leaf l) e = absurd cc
no_interconnect (nettype n) e = absurd cc

-- what matches a type and declares another has no unlike type
no_clash : {k : SegmentKind} {s t : NetType} {r : Rule} → Matches s k → Declares k t → IsUnlike s t r → ⊥
no_clash (takes s) d u = no_interconnect d refl
no_clash (has s k e) d u = by (declares_one e d) u
  where
    by : {s t : NetType} {r : Rule} → s ≡ t → IsUnlike s t r → ⊥
    by e (nettypes m n ne) = ne (same_user m n e)
    by e (leaves l m ne) = ne (same_leaf l m e)
    by e (built_in_first l n) = absurd cc
    by e (nettype_first n l) = absurd cc

-- the first typed segment is one
same_first : (kinds : List SegmentKind) (p q : ℕ) (a b : SegmentKind) {s t : NetType} → slice_get kinds p ≡ Some a → Declares a s → slice_get kinds q ≡ Some b → Declares b t
    → ((i : ℕ) (k : SegmentKind) → i < q → slice_get kinds i ≡ Some k → k ≡ kind.Interconnect) → p < q → ⊥
same_first kinds p q a b at d bt e before lt = no_interconnect d (before p a lt at)

-- a type is that of each longer front
agree : (kinds : List SegmentKind) (m n : ℕ) (s t : NetType) → m ≤ n → (s ≡ net.Untyped → ⊥) → TypeWithin kinds m s → TypeWithin kinds n t → s ≡ t
agree kinds m n s t le some (untyped none) w = absurd (some refl)
agree kinds m n s t le some (typed p a _ lt at d before all) (untyped none) = absurd (no_interconnect d (none p a (omega (arith, lt, le)) at))
agree kinds m n s t le some (typed p a _ lt at d before all) (typed q b _ lt2 bt e before2 all2) = elim (cases_eq p q) [
  | inl same ↦ let one : a ≡ b = cc (at, bt, ap (slice_get kinds) same) in declares_one (subst (λ k. Declares k s) one d) e
  | inr ne ↦ elim (cases_lt p q) [
    | inl less ↦ absurd (same_first kinds p q a b at d bt e before2 less)
    | inr more ↦ absurd (same_first kinds q p b a bt e at d before (omega (arith, more, ne)))
  ]
]

-- all segments of a front match its type
matched : (kinds : List SegmentKind) (n i : ℕ) (t : NetType) (k : SegmentKind) → TypeWithin kinds n t → i < n → slice_get kinds i ≡ Some k → Matches t k
matched kinds n i t k (untyped none) lt at = subst (Matches net.Untyped) (sym (none i k lt at)) (takes net.Untyped)
matched kinds n i t k (typed p a _ lt2 at2 d before all) lt at = all i k lt at

-- a type that something is unlike is one
some_type : {s t : NetType} {r : Rule} → IsUnlike s t r → s ≡ net.Untyped → ⊥
some_type (nettypes m n ne) e = absurd cc
some_type (leaves l m ne) e = absurd cc
some_type (built_in_first l n) e = absurd cc
some_type (nettype_first n l) e = absurd cc

-- behind an unlike segment no front has a type
no_longer : (kinds : List SegmentKind) (u : Unlike) (n : ℕ) (t : NetType) → FirstUnlike kinds u → u.segment < n → TypeWithin kinds n t → ⊥
no_longer kinds u n t f lt w =
    let same : f.before ≡ t = agree kinds u.segment n f.before t (omega (arith, lt)) (some_type f.unlike) f.is w in
    no_clash (subst (λ s. Matches s f.kind) (sym same) (matched kinds n u.segment t f.kind w lt f.at)) f.declared f.unlike

one_rule : {s t : NetType} {r q : Rule} → IsUnlike s t r → IsUnlike s t q → r ≡ q
one_rule (nettypes m n ne) (nettypes _ _ _) = refl
one_rule (leaves l m ne) (leaves _ _ _) = refl
one_rule (built_in_first l n) (built_in_first _ _) = refl
one_rule (nettype_first n l) (nettype_first _ _) = refl

abbrev unlike_of : Rule → ℕ → Unlike
unlike_of r n = record { rule = r; segment = n }

same_unlike : (kinds : List SegmentKind) (u v : Unlike) → FirstUnlike kinds u → FirstUnlike kinds v → u.segment ≡ v.segment → u ≡ v
same_unlike kinds u v f g e =
    let before : f.before ≡ g.before = agree kinds u.segment v.segment f.before g.before (omega (arith, e)) (some_type f.unlike) f.is g.is in
    let kind_is : f.kind ≡ g.kind = cc (f.at, g.at, ap (slice_get kinds) e) in
    let other : f.other ≡ g.other = declares_one (subst (λ k. Declares k f.other) kind_is f.declared) g.declared in
    let rule : u.rule ≡ v.rule = one_rule (subst (λ s. IsUnlike s g.other u.rule) before (subst (λ t. IsUnlike f.before t u.rule) other f.unlike)) g.unlike in
    ap (λ (r : Rule). unlike_of r u.segment) rule ∙ ap (λ (n : ℕ). unlike_of v.rule n) e

pub one : OneType
one kinds (Ok s) (Ok t) v w = ap Ok (by s t v w)
  where
    by : (s t : NetType) → TypeWithin kinds (length kinds) s → TypeWithin kinds (length kinds) t → s ≡ t
    by s t (untyped none) (untyped _) = refl
    by s t (untyped none) (typed p a _ lt at d before all) = absurd (no_interconnect d (none p a lt at))
    by s t (typed p a _ lt at d before all) w = agree kinds (length kinds) (length kinds) s t (omega arith) (typed_some d) (typed p a s lt at d before all) w
one kinds (Ok s) (Err v) w g = absurd (no_longer kinds v (length kinds) s g (slice_get_within kinds v.segment g.kind g.at) w)
one kinds (Err u) (Ok t) f w = absurd (no_longer kinds u (length kinds) t f (slice_get_within kinds u.segment f.kind f.at) w)
one kinds (Err u) (Err v) f g = elim (cases_eq u.segment v.segment) [
  | inl e ↦ ap Err (same_unlike kinds u v f g e)
  | inr ne ↦ elim (cases_lt u.segment v.segment) [
    | inl less ↦ absurd (no_longer kinds u v.segment g.before f less g.is)
    | inr more ↦ absurd (no_longer kinds v u.segment f.before g (omega (arith, more, ne)) f.is)
  ]
]
