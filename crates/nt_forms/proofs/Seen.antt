-- The first node of a draft.
use Rattle.std.proofs.Common.{◌≡◌, ap, ◌∙◌}
use Rattle.nt_value.specs.declared.leaf.Leaf.{Leaf}
use Rattle.nt_value.specs.declared.literal.Literal.{Literal}
use Rattle.nt_value.specs.declared.operator.Unary.{Unary}
use Rattle.nt_value.specs.declared.operator.Binary.{Binary}
use Rattle.nt_design.specs.declared.tree.Tree.{Tree}
use Rattle.nt_kinds.specs.declared.kind.Kind.{Kind}
use Rattle.nt_drafts.specs.declared.drafts.Draft.{Draft}
use Rattle.nt_drafts.specs.declared.drafts.Draft.TheVariants as v
use Rattle.nt_drafts.specs.declared.drafts.Draft.TheOpen.{Draft-F}
use Rattle.nt_drafts.specs.declared.drafts.Draft.TheViews.{out-Draft, roll-Draft, out-roll-Draft}
use denote.Hole.Carrier.{roll}

pub seen_closed : (d : Draft) (l : Leaf) (k : Kind) (a : Tree) → d ≡ v.Closed l k a → out-Draft d ≡ Draft-F.Closed l k a
unfolding roll-Draft roll
seen_closed d l k a h = ap out-Draft h ∙ out-roll-Draft (Draft-F.Closed l k a)

pub seen_whole : (d : Draft) (k : Kind) (a : Tree) → d ≡ v.Whole k a → out-Draft d ≡ Draft-F.Whole k a
unfolding roll-Draft roll
seen_whole d k a h = ap out-Draft h ∙ out-roll-Draft (Draft-F.Whole k a)

pub seen_many : (d : Draft) (k : Kind) → d ≡ v.Many k → out-Draft d ≡ Draft-F.Many k
unfolding roll-Draft roll
seen_many d k h = ap out-Draft h ∙ out-roll-Draft (Draft-F.Many k)

pub seen_literal : (d : Draft) (l : Leaf) (n : Literal) → d ≡ v.Literal l n → out-Draft d ≡ Draft-F.Literal l n
unfolding roll-Draft roll
seen_literal d l n h = ap out-Draft h ∙ out-roll-Draft (Draft-F.Literal l n)

pub seen_unary : (d : Draft) (l : Leaf) (op : Unary) (inner : Leaf) (x : Draft) → d ≡ v.Unary l op inner x → out-Draft d ≡ Draft-F.Unary l op inner x
unfolding roll-Draft roll
seen_unary d l op inner x h = ap out-Draft h ∙ out-roll-Draft (Draft-F.Unary l op inner x)

pub seen_binary : (d : Draft) (l : Leaf) (op : Binary) (m : Leaf) (x : Draft) (n : Leaf) (y : Draft) → d ≡ v.Binary l op m x n y → out-Draft d ≡ Draft-F.Binary l op m x n y
unfolding roll-Draft roll
seen_binary d l op m x n y h = ap out-Draft h ∙ out-roll-Draft (Draft-F.Binary l op m x n y)

pub seen_choose : (d : Draft) (l : Leaf) (test : Tree) (x y : Draft) → d ≡ v.Choose l test x y → out-Draft d ≡ Draft-F.Choose l test x y
unfolding roll-Draft roll
seen_choose d l test x y h = ap out-Draft h ∙ out-roll-Draft (Draft-F.Choose l test x y)
