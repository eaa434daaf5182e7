-- The type of a joined net (IEEE 1800-2017, 6.6.8, 23.3.3). Segments are listed in the order of elaboration.
use Rattle.std.specs.Prelude.{◌≡◌, ℕ, ◌<◌, ◌⊎◌, List, length, Some, slice_get, Result, Ok, Err}
use Rattle.nt_value.specs.declared.leaf.Leaf.{Leaf}
use Rattle.nt_diag.specs.declared.rule.Rule.{Rule}
use Rattle.nt_diag.specs.declared.rule.Rule.TheVariants.{P4, P5}
use Rattle.nt_interconnect.specs.declared.types.NetType.{NetType}
use Rattle.nt_interconnect.specs.declared.types.NetType.TheVariants as net
use Rattle.nt_interconnect.specs.declared.types.SegmentKind.{SegmentKind}
use Rattle.nt_interconnect.specs.declared.types.SegmentKind.TheVariants as kind
use Rattle.nt_interconnect.specs.declared.types.Unlike.{Unlike}

-- the type that a segment is declared with, if any
pub data Declares : SegmentKind → NetType → Type 0 where
  leaf : (l : Leaf) → Declares (kind.BuiltIn l) (net.BuiltIn l)
  nettype : (n : ℕ) → Declares (kind.User n) (net.User n)

-- a segment may stand in a net of this type: an interconnect takes it, another segment has it
pub data Matches : NetType → SegmentKind → Type 0 where
  takes : (t : NetType) → Matches t kind.Interconnect
  has : (t : NetType) (k : SegmentKind) → Declares k t → Matches t k

-- of the first n segments this is the type: that of the first that has one, which all match; or there are interconnects alone
pub data TypeWithin (kinds : List SegmentKind) (n : ℕ) : NetType → Type 0 where
  untyped : ((i : ℕ) (k : SegmentKind) → i < n → slice_get kinds i ≡ Some k → k ≡ kind.Interconnect) → TypeWithin kinds n net.Untyped
  typed : (place : ℕ) (first : SegmentKind) (t : NetType) → place < n → slice_get kinds place ≡ Some first → Declares first t
      → ((i : ℕ) (k : SegmentKind) → i < place → slice_get kinds i ≡ Some k → k ≡ kind.Interconnect)
      → ((i : ℕ) (k : SegmentKind) → i < n → slice_get kinds i ≡ Some k → Matches t k) → TypeWithin kinds n t

-- how two types are unlike: two nettypes, or a built-in net and anything else
pub data IsUnlike : NetType → NetType → Rule → Type 0 where
  nettypes : (m n : ℕ) → (m ≡ n → ⊥) → IsUnlike (net.User m) (net.User n) P4
  leaves : (l m : Leaf) → (l ≡ m → ⊥) → IsUnlike (net.BuiltIn l) (net.BuiltIn m) P5
  built_in_first : (l : Leaf) (n : ℕ) → IsUnlike (net.BuiltIn l) (net.User n) P5
  nettype_first : (n : ℕ) (l : Leaf) → IsUnlike (net.User n) (net.BuiltIn l) P5

-- the segments before this one have a type, and it has one unlike that
pub record FirstUnlike (kinds : List SegmentKind) (u : Unlike) : Type 0 where
  pub before : NetType
  pub is : TypeWithin kinds u.segment before
  pub kind : SegmentKind
  pub at : slice_get kinds u.segment ≡ Some kind
  pub other : NetType
  pub declared : Declares kind other
  pub unlike : IsUnlike before other u.rule

abbrev pub TypeOf : List SegmentKind → Result NetType Unlike → Type 0
TypeOf kinds (Ok t) = TypeWithin kinds (length kinds) t
TypeOf kinds (Err u) = FirstUnlike kinds u

-- one segment more: the type after it, or the rule that it breaks
abbrev pub Joins : NetType → SegmentKind → Result NetType Rule → Type 0
Joins before next (Ok t) = ((before ≡ t) × Matches t next) ⊎ ((before ≡ net.Untyped) × Declares next t)
Joins before next (Err r) = (other : NetType) × Declares next other × IsUnlike before other r

-- a joined net has one answer
abbrev pub OneType : Type 0
OneType = (kinds : List SegmentKind) (a b : Result NetType Unlike) → TypeOf kinds a → TypeOf kinds b → a ≡ b
