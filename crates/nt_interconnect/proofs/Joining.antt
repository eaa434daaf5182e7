-- One segment more.
use Rattle.std.proofs.Common.{◌≡◌, ℕ, ◌+◌, ◌<◌, List, Some, Ok, Err, inl, inr, refl, sym, ap, subst, arith}
use Rattle.std.specs.Prelude.{slice_get}
use Rattle.std.proofs.lemmas.Bool.{cases_eq}
use Rattle.nt_diag.specs.declared.rule.Rule.{Rule}
use Rattle.nt_value.specs.declared.leaf.Leaf.{Leaf}
use Rattle.nt_interconnect.specs.Types.{Declares, leaf, nettype, Matches, takes, has, TypeWithin, untyped, typed, IsUnlike, FirstUnlike, Joins}
use Rattle.nt_interconnect.specs.declared.types.NetType.{NetType}
use Rattle.nt_interconnect.specs.declared.types.NetType.TheVariants as net
use Rattle.nt_interconnect.specs.declared.types.SegmentKind.{SegmentKind}
use Rattle.nt_interconnect.specs.declared.types.SegmentKind.TheVariants as kind
use Rattle.nt_interconnect.specs.declared.types.Unlike.{Unlike}

pub leaf_of : (next : SegmentKind) (l : Leaf) → next ≡ kind.BuiltIn l → Declares next (net.BuiltIn l)
leaf_of next l e = subst (λ k. Declares k (net.BuiltIn l)) (sym e) (leaf l)

pub nettype_of : (next : SegmentKind) (n : ℕ) → next ≡ kind.User n → Declares next (net.User n)
nettype_of next n e = subst (λ k. Declares k (net.User n)) (sym e) (nettype n)

pub stays : (before : NetType) (next : SegmentKind) → next ≡ kind.Interconnect → Joins before next (Ok before)
stays before next e = inl (refl, subst (Matches before) (sym e) (takes before))

pub begins : (before : NetType) (next : SegmentKind) (t : NetType) → before ≡ net.Untyped → Declares next t → Joins before next (Ok t)
begins before next t e d = inr (e, d)

pub clashes : (before : NetType) (next : SegmentKind) (other : NetType) (r : Rule) → Declares next other → IsUnlike before other r → Joins before next (Err r)
clashes before next other r d u = (other, d, u)

-- of no segments the type is none
pub none_yet : (kinds : List SegmentKind) → TypeWithin kinds 0 net.Untyped
none_yet kinds = untyped (λ i k lt is. absurd (omega (arith, lt)))

same_kind : (kinds : List SegmentKind) (n i : ℕ) (a b : SegmentKind) → i ≡ n → slice_get kinds n ≡ Some a → slice_get kinds i ≡ Some b → a ≡ b
same_kind kinds n i a b e at is = cc (at, is, ap (slice_get kinds) e)

upto : {P : SegmentKind → Type 0} (kinds : List SegmentKind) (n : ℕ) (next : SegmentKind) → slice_get kinds n ≡ Some next
    → ((i : ℕ) (k : SegmentKind) → i < n → slice_get kinds i ≡ Some k → P k) → P next → (i : ℕ) (k : SegmentKind) → i < n + 1 → slice_get kinds i ≡ Some k → P k
upto {P = P} kinds n next at before here i k lt is = elim (cases_eq i n) [
  | inl e ↦ subst P (same_kind kinds n i next k e at is) here
  | inr ne ↦ before i k (omega (arith, lt, ne)) is
]

-- a type goes on where one segment more is an interconnect or matches
keeps : (kinds : List SegmentKind) (n : ℕ) (t : NetType) (next : SegmentKind) → slice_get kinds n ≡ Some next → TypeWithin kinds n t → Matches t next → TypeWithin kinds (n + 1) t
keeps kinds n t next at (untyped none) (takes _) = untyped (upto {P = λ k. k ≡ kind.Interconnect} kinds n kind.Interconnect at none refl)
keeps kinds n t next at (untyped none) (has _ k d) = elim d [ ]
keeps kinds n t next at (typed place first _ lt is declared before all) m =
    typed place first t (omega (arith, lt)) is declared before (upto {P = λ k. Matches t k} kinds n next at all m)

-- or begins with it
starts : (kinds : List SegmentKind) (n : ℕ) (t : NetType) (next : SegmentKind) → slice_get kinds n ≡ Some next → TypeWithin kinds n net.Untyped → Declares next t → TypeWithin kinds (n + 1) t
starts kinds n t next at (untyped none) d =
    typed n next t (omega arith) at d none (upto {P = λ k. Matches t k} kinds n next at (λ i k lt is. subst (Matches t) (sym (none i k lt is)) (takes t)) (has t next d))
starts kinds n t next at (typed place first _ lt is declared before all) d = elim declared [ ]

pub goes_on : (kinds : List SegmentKind) (n : ℕ) (before t : NetType) (next : SegmentKind) → slice_get kinds n ≡ Some next → TypeWithin kinds n before → Joins before next (Ok t) → TypeWithin kinds (n + 1) t
goes_on kinds n before t next at w (inl j) = keeps kinds n t next at (subst (TypeWithin kinds n) j.0 w) j.1
goes_on kinds n before t next at w (inr j) = starts kinds n t next at (subst (TypeWithin kinds n) j.0 w) j.1

pub stops : (kinds : List SegmentKind) (before : NetType) (next : SegmentKind) (u : Unlike) → slice_get kinds u.segment ≡ Some next → TypeWithin kinds u.segment before → Joins before next (Err u.rule)
    → FirstUnlike kinds u
stops kinds before next u at w j = record { before = before; is = w; kind = next; at = at; other = j.0; declared = j.1; unlike = j.2 }
