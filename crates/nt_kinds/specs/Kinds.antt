-- Types: their leaves in order, their limits, and which of them are equivalent (IEEE 1800-2017, 6.22.2, 7.2, 7.4).
use Rattle.std.specs.Prelude.{◌≡◌, ℕ, suc, ◌-◌, ◌≤◌, List, [], ◌∷◌, All, map, length, max, min, replicate}
use Rattle.std.specs.List.{flat_map}
use Rattle.nt_value.specs.Digits.{IsLeaf}
use Rattle.nt_value.specs.declared.leaf.Leaf.{Leaf}
use Rattle.nt_value.specs.declared.place.Place.{Place}
use Rattle.nt_kinds.specs.declared.kind.Kind.{Kind}
use Rattle.nt_kinds.specs.declared.kind.Kind.TheOpen.{Kind-F}
use Rattle.nt_kinds.specs.declared.kind.Kind.TheViews.{out-Kind}
use Rattle.nt_kinds.specs.declared.kind.Kind.TheFolds.{fold-Kind}

-- how many indices lie between two bounds, whichever is the greater (7.4.2)
abbrev pub span : ℕ → ℕ → ℕ
span left right = suc (max left right - min left right)

-- the leaves of a type, in order: those of a structure are its members', those of an array its elements'
abbrev pub leaves_step : Kind-F (List Leaf) → List Leaf
leaves_step (Kind-F.One leaf left right) = leaf ∷ []
leaves_step (Kind-F.Struct declared members) = flat_map (λ m. m.1) members
leaves_step (Kind-F.Array left right element) = flat_map (λ s. s) (replicate (span left right) element)

unfoldable pub leaves : Kind → List Leaf
leaves = fold-Kind (List Leaf) leaves_step

abbrev pub member_leaves : List (List ℕ × Kind) → List Leaf
member_leaves members = flat_map (λ m. leaves m.1) members

-- the greatest of some numbers
abbrev pub greatest : List ℕ → ℕ
greatest [] = 0
greatest (n ∷ ns) = max n (greatest ns)

-- how many structures and arrays there are inside one another
abbrev pub levels_step : Kind-F ℕ → ℕ
levels_step (Kind-F.One leaf left right) = 0
levels_step (Kind-F.Struct declared members) = suc (greatest (map (λ m. m.1) members))
levels_step (Kind-F.Array left right element) = suc element

unfoldable pub levels : Kind → ℕ
levels = fold-Kind ℕ levels_step

-- those of the deepest member
abbrev pub deepest : List (List ℕ × Kind) → ℕ
deepest members = greatest (map (λ m. levels m.1) members)

-- at most 64 leaves, and 64 structures and arrays inside one another: this project's limits
pub record IsSmall (kind : Kind) : Type 0 where
  pub wide : length (leaves kind) ≤ 64
  pub deep : levels kind ≤ 64

-- a type that a value may have
pub record IsSound (kind : Kind) : Type 0 where
  pub within : length (leaves kind) ≤ 64
  pub valid : All IsLeaf (leaves kind)

-- which types are equivalent: by leaf, by declaration, by element and size (6.22.2). One declaration can have other widths in
-- another instance of its module, so of structures the leaves are compared as well
pub data Equivalent : Kind-F Kind → Kind-F Kind → Type 0 where
  by_leaf : {a b c d : ℕ} (leaf : Leaf) → Equivalent (Kind-F.One leaf a b) (Kind-F.One leaf c d)
  by_declaration : (at : Place) (ms ns : List (List ℕ × Kind)) → member_leaves ms ≡ member_leaves ns → Equivalent (Kind-F.Struct at ms) (Kind-F.Struct at ns)
  by_element : {a b c d : ℕ} {x y : Kind} → span a b ≡ span c d → Equivalent (out-Kind x) (out-Kind y) → Equivalent (Kind-F.Array a b x) (Kind-F.Array c d y)
