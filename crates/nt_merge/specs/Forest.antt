-- Classes as trees, each of one class: a segment's parent is a lesser one of its class, or itself at the root. For the proof alone.
use Rattle.std.specs.Prelude.{◌≡◌, ℕ, ◌<◌, ◌≤◌, ◌==◌, if◌then◌else◌, min, max, List, length, get_or, map}
use Rattle.nt_merge.specs.declared.segments.Link.{Link}

-- no segment has a greater parent
abbrev pub Downward : List ℕ → Type 0
Downward parents = (a : ℕ) → a < length parents → get_or parents a 0 ≤ a

-- the list gives each segment the root of its tree
pub record HasRoots (parents roots : List ℕ) : Type 0 where
  pub size : length roots ≡ length parents
  pub kept : (a : ℕ) → a < length parents → get_or roots (get_or parents a 0) 0 ≡ get_or roots a 0
  pub own : (a : ℕ) → a < length parents → get_or parents a 0 ≡ a → get_or roots a 0 ≡ a
  pub low : (a : ℕ) → a < length parents → get_or roots a 0 ≤ a
  pub top : (a : ℕ) → a < length parents → get_or roots (get_or roots a 0) 0 ≡ get_or roots a 0

-- one root in place of another
abbrev pub renamed : ℕ → ℕ → ℕ → ℕ
renamed from to root = if root == from then to else root

-- the lesser of two roots in place of the greater
abbrev pub merged : ℕ → ℕ → List ℕ → List ℕ
merged a b roots = map (renamed (max a b) (min a b)) roots

-- the trees of a link's ends are one
abbrev pub Merges : List ℕ → List ℕ → Link → Type 0
Merges before after l = (roots : List ℕ) → HasRoots before roots → HasRoots after (merged (get_or roots l.a 0) (get_or roots l.b 0) roots)
