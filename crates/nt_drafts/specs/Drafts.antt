-- Drafts: the tree that one becomes in a context, and of which expression it is one (IEEE 1800-2017, 11.6.1, 11.8.2).
use Rattle.std.specs.Prelude.{◌≡◌, Option, Some, None}
use Rattle.nt_value.specs.Digits.{IsLeaf}
use Rattle.nt_value.specs.declared.leaf.Leaf.{Leaf}
use Rattle.nt_value.specs.declared.literal.Literal.{Literal}
use Rattle.nt_value.specs.declared.operator.Unary.{Unary}
use Rattle.nt_value.specs.declared.operator.Binary.{Binary}
use Rattle.nt_value.specs.declared.place.Place.{Place}
use Rattle.nt_ast.specs.Places.{Node}
use Rattle.nt_ast.specs.declared.expr.Expr.{Expr}
use Rattle.nt_ast.specs.declared.expr.Expr.TheOpen.{Expr-F}
use Rattle.nt_ast.specs.declared.expr.Expr.TheViews.{out-Expr}
use Rattle.nt_const.specs.Tables.{unary_in, unary_leaf, binary_leaf, choice_leaf, literal_in}
use Rattle.nt_design.specs.Shapes.{unary_answer, binary_answer}
use Rattle.nt_design.specs.declared.tree.Tree.{Tree}
use Rattle.nt_design.specs.declared.tree.Tree.TheVariants as t
use Rattle.nt_kinds.specs.declared.kind.Kind.{Kind}
use Rattle.nt_typing.specs.declared.scope.Scope.{Scope}
use Rattle.nt_typing.specs.Kinds.{leaf_of}
use Rattle.nt_typing.specs.Tables.{left_context, right_context, fitted, constant_tree}
use Rattle.nt_typing.specs.declared.thing.Thing.TheVariants.{Value as value, Many as many}
use Rattle.nt_typing.specs.Typing.{Stands, Alone, Itself}
use Rattle.nt_drafts.specs.declared.drafts.Draft.{Draft}
use Rattle.nt_drafts.specs.declared.drafts.Draft.TheOpen.{Draft-F}
use Rattle.nt_drafts.specs.declared.drafts.Draft.TheViews.{out-Draft}
use Rattle.nt_drafts.specs.declared.drafts.Draft.TheFolds.{fold-Draft}

-- the tree in a context, from those of its parts
abbrev pub tree_step : Draft-F (Leaf → Tree) → Leaf → Tree
tree_step (Draft-F.Closed l kind a) c = fitted l c a
tree_step (Draft-F.Whole kind a) c = a
tree_step (Draft-F.Many element) c = t.Size
tree_step (Draft-F.Literal l v) c = constant_tree (literal_in v c)
tree_step (Draft-F.Unary l op inner x) c =
    fitted (unary_answer op (unary_in op c inner)) c (t.Unary op (x (unary_in op c inner)))
tree_step (Draft-F.Binary l op first x second y) c =
    fitted (binary_answer op (left_context op c first second) (right_context op c first second)) c
    (t.Binary op (x (left_context op c first second)) (y (right_context op c first second)))
tree_step (Draft-F.Choose l test x y) c = t.Choose test (x c) (y c)

abbrev pub draft_tree : Draft → Leaf → Tree
draft_tree = fold-Draft (Leaf → Tree) tree_step

-- the leaf of a draft by itself
abbrev pub draft_leaf : Draft-F Draft → Option Leaf
draft_leaf (Draft-F.Closed l kind a) = Some l
draft_leaf (Draft-F.Whole kind a) = None
draft_leaf (Draft-F.Many element) = None
draft_leaf (Draft-F.Literal l v) = Some l
draft_leaf (Draft-F.Unary l op inner x) = Some l
draft_leaf (Draft-F.Binary l op first x second y) = Some l
draft_leaf (Draft-F.Choose l test x y) = Some l

-- a draft of an expression
pub data DraftOf (s : Scope) : Node → Draft-F Draft → Type 0 where
  closed_of : {x : Node} {k : Kind} {a : Tree} {l : Leaf} → Stands s x (value k a) → leaf_of k ≡ Some l → DraftOf s x (Draft-F.Closed l k a)
  whole_of : {x : Node} {k : Kind} {a : Tree} → Stands s x (value k a) → leaf_of k ≡ None → DraftOf s x (Draft-F.Whole k a)
  many_of : {x : Node} {k : Kind} → Stands s x (many k) → DraftOf s x (Draft-F.Many k)
  literal_of : (at : Place) (v : Literal) → IsLeaf v.bits.leaf → DraftOf s (Expr-F.Literal at v) (Draft-F.Literal v.bits.leaf v)
  unary_of : {l : Leaf} (at : Place) (op : Unary) (x : Expr) (d : Draft)
      → Alone s (out-Expr x) l → DraftOf s (out-Expr x) (out-Draft d) → DraftOf s (Expr-F.Unary at op x) (Draft-F.Unary (unary_leaf op l) op l d)
  binary_of : {l m : Leaf} (at : Place) (op : Binary) (x y : Expr) (d e : Draft)
      → Alone s (out-Expr x) l → DraftOf s (out-Expr x) (out-Draft d) → Alone s (out-Expr y) m → DraftOf s (out-Expr y) (out-Draft e)
      → DraftOf s (Expr-F.Binary at op x y) (Draft-F.Binary (binary_leaf op l m) op l d m e)
  choose_of : {p l m : Leaf} {test : Tree} (at : Place) (z x y : Expr) (d e : Draft)
      → Itself s (out-Expr z) p test → Alone s (out-Expr x) l → DraftOf s (out-Expr x) (out-Draft d) → Alone s (out-Expr y) m → DraftOf s (out-Expr y) (out-Draft e)
      → DraftOf s (Expr-F.Choose at z x y) (Draft-F.Choose (choice_leaf p l m) test d e)
