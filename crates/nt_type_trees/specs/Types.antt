-- Which type a type tree stands for (IEEE 1800-2017, 6.8, 6.11, 6.18, 7.2, 7.4).
use Rattle.std.specs.Prelude.{◌≡◌, ℕ, ◌-◌, ◌≤◌, Bool, true, false, List, [], ◌∷◌, All, Option, Some, None}
use Rattle.nt_value.specs.Digits.{LeafValue, IsLeaf}
use Rattle.nt_value.specs.declared.leaf.Leaf.{Leaf}
use Rattle.nt_value.specs.declared.place.Place.{Place}
use Rattle.nt_ast.specs.declared.path.Path.{Path}
use Rattle.nt_ast.specs.declared.path.Declared.{Declared}
use Rattle.nt_ast.specs.declared.expr.Expr.{Expr}
use Rattle.nt_ast.specs.declared.expr.Expr.TheViews.{out-Expr}
use Rattle.nt_ast.specs.declared.types.IntWord.{IntWord}
use Rattle.nt_ast.specs.declared.types.IntWord.TheVariants as w
use Rattle.nt_ast.specs.declared.types.TypeTree.{TypeTree}
use Rattle.nt_ast.specs.declared.types.TypeTree.TheOpen.{TypeTree-F}
use Rattle.nt_ast.specs.declared.types.TypeTree.TheViews.{out-TypeTree}
use Rattle.nt_const.specs.Tables.{Counts, IsWidth, count_of}
use Rattle.nt_const.specs.Rules.{Names}
use Rattle.nt_const.specs.Tells.{Means}
use Rattle.nt_kinds.specs.declared.kind.Kind.{Kind}
use Rattle.nt_kinds.specs.declared.kind.Kind.TheVariants as kind
use Rattle.nt_kinds.specs.Kinds.{span, leaves, IsSmall}
use Rattle.nt_type_trees.specs.declared.seen.TypeSeen.{TypeSeen}
use Rattle.nt_type_trees.specs.declared.seen.TypeSeen.TheVariants as seen

-- the first node of a type tree
abbrev pub TypeNode : Type 0
TypeNode = TypeTree-F TypeTree

-- where a type begins
abbrev pub type_place : TypeNode → Place
type_place (TypeTree-F.Integral at word signed range) = at
type_place (TypeTree-F.Struct at members) = at
type_place (TypeTree-F.Named at path) = at
type_place (TypeTree-F.Void at) = at

-- a dimension as it is written: two bounds, or a size
abbrev pub Dim : Type 0
Dim = Expr × Option Expr

-- what is seen of a path where a type is asked for: a type, or the least fault of its declaration; something else; nothing; what two imports
-- give
abbrev pub Types : Type 0
Types = Path → TypeSeen

-- a type that a value may have, within the limits
pub record IsType (x : Kind) : Type 0 where
  pub small : IsSmall x
  pub valid : All IsLeaf (leaves x)

-- what is seen is a type that a value may have, where it is a type
abbrev pub IsSoundSeen : TypeSeen → Type 0
IsSoundSeen (seen.Known x) = IsType x
IsSoundSeen (seen.Faulty r) = Unit {0}
IsSoundSeen seen.Other = Unit {0}
IsSoundSeen seen.Unknown = Unit {0}
IsSoundSeen seen.Ambiguous = Unit {0}

-- the leaf of a word's type, where nothing is written of its sign and its range (6.11)
abbrev pub word_leaf : IntWord → Leaf
word_leaf w.Logic = record { width = 1; signed = false; four = true }
word_leaf w.Reg = record { width = 1; signed = false; four = true }
word_leaf w.Bit = record { width = 1; signed = false; four = false }
word_leaf w.Byte = record { width = 8; signed = true; four = false }
word_leaf w.Shortint = record { width = 16; signed = true; four = false }
word_leaf w.Int = record { width = 32; signed = true; four = false }
word_leaf w.Longint = record { width = 64; signed = true; four = false }
word_leaf w.Integer = record { width = 32; signed = true; four = true }
word_leaf w.Time = record { width = 64; signed = false; four = true }

-- a written sign takes the place of the word's own (6.11.3)
abbrev pub or_sign : Option Bool → Bool → Bool
or_sign None own = own
or_sign (Some signed) own = signed

abbrev pub sign_of : IntWord → Option Bool → Bool
sign_of word signed = or_sign signed (word_leaf word).signed

-- the type without a written range, and with one
abbrev pub plain_kind : IntWord → Option Bool → Kind
plain_kind word signed =
    kind.One (record { width = (word_leaf word).width; signed = sign_of word signed; four = (word_leaf word).four }) ((word_leaf word).width - 1) 0

abbrev pub ranged_kind : IntWord → Option Bool → ℕ → ℕ → Kind
ranged_kind word signed left right =
    kind.One (record { width = span left right; signed = sign_of word signed; four = (word_leaf word).four }) left right

-- a bound or size: a constant that is known, not negative and below 2^32
pub record IsBound (k : Names) (x : Expr) (n : ℕ) : Type 0 where
  pub value : LeafValue
  pub means : Means k (out-Expr x) None value
  pub counts : Counts value
  pub is : n ≡ count_of value

-- the bounds of a dimension: `[size]` stands for `[0 : size - 1]` (7.4.2)
pub data IsDim (k : Names) : Dim → ℕ × ℕ → Type 0 where
  by_bounds : {x y : Expr} {a b : ℕ} → IsBound k x a → IsBound k y b → IsDim k (x, Some y) (a, b)
  by_size : {x : Expr} {n : ℕ} → IsBound k x n → 1 ≤ n → IsDim k (x, None) (0, n - 1)

pub data AreDims (k : Names) : List Dim → List (ℕ × ℕ) → Type 0 where
  no_dims : AreDims k [] []
  more_dims : {d : Dim} {ds : List Dim} {s : ℕ × ℕ} {ss : List (ℕ × ℕ)} → IsDim k d s → AreDims k ds ss → AreDims k (d ∷ ds) (s ∷ ss)

-- the first dimension is the outermost (7.4.4)
abbrev pub arrays : List (ℕ × ℕ) → Kind → Kind
arrays [] element = element
arrays (s ∷ ss) element = kind.Array s.0 s.1 (arrays ss element)

mutual
  -- the type of a type tree
  pub data IsKind (k : Names) (ts : Types) : TypeNode → Kind → Type 0 where
    plain : (at : Place) (word : IntWord) (signed : Option Bool) → IsKind k ts (TypeTree-F.Integral at word signed None) (plain_kind word signed)
    ranged : {a b : ℕ} (at : Place) (word : IntWord) (signed : Option Bool) (x y : Expr)
        → IsBound k x a → IsBound k y b → IsWidth (span a b) → IsKind k ts (TypeTree-F.Integral at word signed (Some (x, y))) (ranged_kind word signed a b)
    structure : {ms : List (TypeTree × Declared)} {kinds : List (List ℕ × Kind)} (at : Place)
        → AreMembers k ts ms kinds → IsSmall (kind.Struct at kinds) → IsKind k ts (TypeTree-F.Struct at ms) (kind.Struct at kinds)
    -- a name stands for the type of its declaration (6.18)
    named : {x : Kind} (at : Place) (path : Path) → ts path ≡ seen.Known x → IsType x → IsKind k ts (TypeTree-F.Named at path) x

  -- the type of a name that is declared with a type and dimensions
  pub data IsDeclared (k : Names) (ts : Types) : TypeTree → List Dim → Kind → Type 0 where
    declared : {t : TypeTree} {dims : List Dim} {x : Kind} {spans : List (ℕ × ℕ)}
        → IsKind k ts (out-TypeTree t) x → AreDims k dims spans → IsSmall (arrays spans x) → IsDeclared k ts t dims (arrays spans x)

  pub data AreMembers (k : Names) (ts : Types) : List (TypeTree × Declared) → List (List ℕ × Kind) → Type 0 where
    no_members : AreMembers k ts [] []
    more_members : {t : TypeTree} {d : Declared} {x : Kind} {ms : List (TypeTree × Declared)} {kinds : List (List ℕ × Kind)}
        → IsDeclared k ts t d.dims x → AreMembers k ts ms kinds → AreMembers k ts ((t, d) ∷ ms) ((d.name, x) ∷ kinds)
