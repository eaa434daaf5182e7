-- What a draft is in a context, by its first node.
use Rattle.std.proofs.Common.{◌≡◌, ap}
use Rattle.nt_value.specs.Digits.{LeafValue}
use Rattle.nt_value.specs.Operators.{resize_of, unary_of, binary_of, merge_of}
use Rattle.nt_value.specs.declared.leaf.Leaf.{Leaf}
use Rattle.nt_value.specs.declared.literal.Literal.{Literal}
use Rattle.nt_value.specs.declared.operator.Unary.{Unary}
use Rattle.nt_value.specs.declared.operator.Binary.{Binary}
use Rattle.nt_const.specs.declared.draft.Draft.{Draft}
use Rattle.nt_const.specs.declared.draft.Draft.TheVariants as d
use Rattle.nt_const.specs.declared.draft.Draft.TheOpen.{Draft-F}
use Rattle.nt_const.specs.declared.draft.Draft.TheViews.{roll-Draft}
use Rattle.nt_const.specs.declared.draft.Draft.TheFolds.{fold-roll-Draft}
use denote.Hole.Carrier.{roll}
use Rattle.nt_const.specs.Tables.{unary_in, left_in, right_in, literal_in}
use Rattle.nt_const.specs.Drafts.{Closing, closing, closing_step}

pub leaf_literal : (l : Leaf) (v : Literal) → (closing (d.Literal l v)).leaf ≡ l
unfolding closing roll-Draft roll
leaf_literal l v = ap (λ (a : Closing). a.leaf) (fold-roll-Draft Closing closing_step (Draft-F.Literal l v))

pub value_literal : (l : Leaf) (v : Literal) (c : Leaf) → (closing (d.Literal l v)).value c ≡ literal_in v c
unfolding closing roll-Draft roll
value_literal l v c = ap (λ (a : Closing). a.value c) (fold-roll-Draft Closing closing_step (Draft-F.Literal l v))

pub leaf_closed : (l : Leaf) (v : LeafValue) → (closing (d.Closed l v)).leaf ≡ l
unfolding closing roll-Draft roll
leaf_closed l v = ap (λ (a : Closing). a.leaf) (fold-roll-Draft Closing closing_step (Draft-F.Closed l v))

pub value_closed : (l : Leaf) (v : LeafValue) (c : Leaf) → (closing (d.Closed l v)).value c ≡ resize_of v c
unfolding closing roll-Draft roll
value_closed l v c = ap (λ (a : Closing). a.value c) (fold-roll-Draft Closing closing_step (Draft-F.Closed l v))

pub leaf_unary : (l : Leaf) (op : Unary) (a : Draft) → (closing (d.Unary l op a)).leaf ≡ l
unfolding closing roll-Draft roll
leaf_unary l op a = ap (λ (a : Closing). a.leaf) (fold-roll-Draft Closing closing_step (Draft-F.Unary l op a))

pub value_unary : (l : Leaf) (op : Unary) (a : Draft) (c : Leaf)
    → (closing (d.Unary l op a)).value c ≡ resize_of (unary_of op ((closing a).value (unary_in op c (closing a).leaf))) c
unfolding closing roll-Draft roll
value_unary l op a c = ap (λ (a : Closing). a.value c) (fold-roll-Draft Closing closing_step (Draft-F.Unary l op a))

pub leaf_binary : (l : Leaf) (op : Binary) (a b : Draft) → (closing (d.Binary l op a b)).leaf ≡ l
unfolding closing roll-Draft roll
leaf_binary l op a b = ap (λ (a : Closing). a.leaf) (fold-roll-Draft Closing closing_step (Draft-F.Binary l op a b))

pub value_binary : (l : Leaf) (op : Binary) (a b : Draft) (c : Leaf)
    → (closing (d.Binary l op a b)).value c
    ≡ resize_of (binary_of op ((closing a).value (left_in op c (closing a).leaf (closing b).leaf)) ((closing b).value (right_in op c (closing a).leaf (closing b).leaf))) c
unfolding closing roll-Draft roll
value_binary l op a b c = ap (λ (a : Closing). a.value c) (fold-roll-Draft Closing closing_step (Draft-F.Binary l op a b))

pub leaf_choose : (l : Leaf) (t : LeafValue) (a b : Draft) → (closing (d.Choose l t a b)).leaf ≡ l
unfolding closing roll-Draft roll
leaf_choose l t a b = ap (λ (a : Closing). a.leaf) (fold-roll-Draft Closing closing_step (Draft-F.Choose l t a b))

pub value_choose : (l : Leaf) (t : LeafValue) (a b : Draft) (c : Leaf)
    → (closing (d.Choose l t a b)).value c ≡ merge_of t ((closing a).value c) ((closing b).value c)
unfolding closing roll-Draft roll
value_choose l t a b c = ap (λ (a : Closing). a.value c) (fold-roll-Draft Closing closing_step (Draft-F.Choose l t a b))

pub ruleset equations = (leaf_literal, value_literal, leaf_closed, value_closed, leaf_unary, value_unary, leaf_binary, value_binary, leaf_choose, value_choose)
