-- Types where an expression meets them: their leaf, their members (IEEE 1800-2017, 6.11, 7.2).
use Rattle.std.specs.Prelude.{ℕ, nat_eq, ◌+◌, ◌-◌, if◌then◌else◌, List, [], ◌∷◌, length, Option, Some, None}
use Rattle.std.specs.Cmp.Lexicographic.{pointwise}
use Rattle.nt_value.specs.declared.leaf.Leaf.{Leaf}
use Rattle.nt_kinds.specs.Kinds.{leaves}
use Rattle.nt_kinds.specs.declared.kind.Kind.{Kind}
use Rattle.nt_kinds.specs.declared.kind.Kind.TheOpen.{Kind-F}
use Rattle.nt_kinds.specs.declared.kind.Kind.TheVariants as k
use Rattle.nt_kinds.specs.declared.kind.Kind.TheViews.{out-Kind}

-- the leaf of an integral type
abbrev pub leaf_in : Kind-F Kind → Option Leaf
leaf_in (Kind-F.One leaf left right) = Some leaf
leaf_in (Kind-F.Struct declared members) = None
leaf_in (Kind-F.Array left right element) = None

abbrev pub leaf_of : Kind → Option Leaf
leaf_of kind = leaf_in (out-Kind kind)

-- an integral type without a declared range: its digits count from 0
abbrev pub plain : Leaf → Kind
plain leaf = k.One leaf (leaf.width - 1) 0

-- a member: its type, and how many leaves stand before it
pub record Found : Type 0 where
  pub kind : Kind
  pub first : ℕ

abbrev pub found_from : ℕ → List (List ℕ × Kind) → List ℕ → Option Found
found_from first [] name = None
found_from first (m ∷ ms) name =
    if pointwise nat_eq m.0 name then Some (record { kind = m.1; first = first }) else found_from (first + length (leaves m.1)) ms name
