-- The first node of a type.
use Rattle.std.proofs.Common.{◌≡◌, ℕ, Some, ap, ◌∙◌}
use Rattle.nt_value.specs.declared.leaf.Leaf.{Leaf}
use Rattle.nt_kinds.specs.declared.kind.Kind.{Kind}
use Rattle.nt_kinds.specs.declared.kind.Kind.TheOpen.{Kind-F}
use Rattle.nt_kinds.specs.declared.kind.Kind.TheVariants as k
use Rattle.nt_kinds.specs.declared.kind.Kind.TheViews.{roll-Kind, out-roll-Kind}
use Rattle.nt_typing.specs.Kinds.{leaf_in, leaf_of}
use denote.Hole.Carrier.{roll}

pub one_leaf : (x : Kind) (l : Leaf) (a b : ℕ) → x ≡ k.One l a b → leaf_of x ≡ Some l
unfolding roll-Kind roll
one_leaf x l a b h = ap leaf_of h ∙ ap leaf_in (out-roll-Kind (Kind-F.One l a b))
