-- The drafts of operators from those of their operands.
use Rattle.std.proofs.Common.{◌≡◌, Bool, Some, None, ap, ◌∙◌}
use Rattle.nt_value.specs.Digits.{IsLeaf}
use Rattle.nt_value.specs.declared.leaf.Leaf.{Leaf}
use Rattle.nt_value.specs.declared.literal.Literal.{Literal}
use Rattle.nt_value.specs.declared.operator.Unary.{Unary}
use Rattle.nt_value.specs.declared.operator.Binary.{Binary}
use Rattle.nt_value.specs.declared.place.Place.{Place}
use Rattle.nt_ast.specs.Places.{Node}
use Rattle.nt_ast.specs.declared.expr.Expr.{Expr}
use Rattle.nt_ast.specs.declared.expr.Expr.TheOpen.{Expr-F}
use Rattle.nt_ast.specs.declared.expr.Expr.TheViews.{out-Expr}
use Rattle.nt_const.specs.Tables.{unary_leaf, binary_leaf, choice_leaf, with_sign}
use Rattle.nt_design.specs.declared.tree.Tree.{Tree}
use Rattle.nt_kinds.specs.declared.kind.Kind.{Kind}
use Rattle.nt_typing.specs.declared.scope.Scope.{Scope}
use Rattle.nt_typing.specs.declared.thing.Thing.TheVariants.{Value as value, Many as many}
use Rattle.nt_typing.specs.Kinds.{leaf_of, plain}
use Rattle.nt_typing.specs.Tables.{fitted}
use Rattle.nt_typing.specs.Typing.{Stands, Itself, sign}
use Rattle.nt_typing.proofs.Pieces.{plain_leaf}
use Rattle.nt_drafts.specs.Drafts.{DraftOf, closed_of, whole_of, many_of, literal_of, unary_of, binary_of, choose_of}
use Rattle.nt_drafts.specs.declared.drafts.Draft.{Draft}
use Rattle.nt_drafts.specs.declared.drafts.Draft.TheVariants as v
use Rattle.nt_drafts.specs.declared.drafts.Draft.TheViews.{out-Draft}
use Rattle.nt_forms.specs.Walks.{IsLeafed}
use Rattle.nt_forms.specs.declared.operands.Leafed.{Leafed}
use Rattle.nt_forms.proofs.Seen.{seen_closed, seen_whole, seen_many, seen_literal, seen_unary, seen_binary, seen_choose}
use Rattle.nt_forms.proofs.Asking.{redrawn, alone_of}

pub literal_drawn : (d : Draft) (n : Literal) (l : Leaf) → l ≡ n.bits.leaf → IsLeaf n.bits.leaf → d ≡ v.Literal l n → (s : Scope) (at : Place) → DraftOf s (Expr-F.Literal at n) (out-Draft d)
literal_drawn d n l e w h s at =
    redrawn d _ (seen_literal d n.bits.leaf n (h ∙ ap (λ l. v.Literal l n) e)) (literal_of at n w)

pub unary_drawn : (d : Draft) (op : Unary) (one : Leafed) (l : Leaf) → l ≡ unary_leaf op one.size → d ≡ v.Unary l op one.size one.draft
    → (s : Scope) (at : Place) (x : Expr) → IsLeafed s (out-Expr x) one → DraftOf s (Expr-F.Unary at op x) (out-Draft d)
unary_drawn d op one l e h s at x a =
    redrawn d _ (seen_unary d (unary_leaf op one.size) op one.size one.draft (h ∙ ap (λ l. v.Unary l op one.size one.draft) e)) (unary_of at op x one.draft (alone_of one a) a.0)

pub binary_drawn : (d : Draft) (op : Binary) (one other : Leafed) (l : Leaf) → l ≡ binary_leaf op one.size other.size → d ≡ v.Binary l op one.size one.draft other.size other.draft
    → (s : Scope) (at : Place) (x y : Expr) → IsLeafed s (out-Expr x) one → IsLeafed s (out-Expr y) other → DraftOf s (Expr-F.Binary at op x y) (out-Draft d)
binary_drawn d op one other l e h s at x y a b =
    redrawn d _ (seen_binary d (binary_leaf op one.size other.size) op one.size one.draft other.size other.draft (h ∙ ap (λ l. v.Binary l op one.size one.draft other.size other.draft) e))
    (binary_of at op x y one.draft other.draft (alone_of one a) a.0 (alone_of other b) b.0)

pub choose_drawn : (d : Draft) (p : Leaf) (test : Tree) (one other : Leafed) (l : Leaf) → l ≡ choice_leaf p one.size other.size → d ≡ v.Choose l test one.draft other.draft
    → (s : Scope) (at : Place) (z x y : Expr) → Itself s (out-Expr z) p test → IsLeafed s (out-Expr x) one → IsLeafed s (out-Expr y) other → DraftOf s (Expr-F.Choose at z x y) (out-Draft d)
choose_drawn d p test one other l e h s at z x y i a b =
    redrawn d _ (seen_choose d (choice_leaf p one.size other.size) test one.draft other.draft (h ∙ ap (λ l. v.Choose l test one.draft other.draft) e))
    (choose_of at z x y one.draft other.draft i (alone_of one a) a.0 (alone_of other b) b.0)

pub closed_drawn : (d : Draft) (l : Leaf) (k : Kind) (a : Tree) → leaf_of k ≡ Some l → d ≡ v.Closed l k a → (s : Scope) (x : Node) → Stands s x (value k a) → DraftOf s x (out-Draft d)
closed_drawn d l k a e h s x g = redrawn d _ (seen_closed d l k a h) (closed_of g e)

pub whole_drawn : (d : Draft) (k : Kind) (a : Tree) → leaf_of k ≡ None → d ≡ v.Whole k a → (s : Scope) (x : Node) → Stands s x (value k a) → DraftOf s x (out-Draft d)
whole_drawn d k a e h s x g = redrawn d _ (seen_whole d k a h) (whole_of g e)

pub many_drawn : (d : Draft) (k : Kind) → d ≡ v.Many k → (s : Scope) (x : Node) → Stands s x (many k) → DraftOf s x (out-Draft d)
many_drawn d k h s x g = redrawn d _ (seen_many d k h) (many_of g)

pub sign_drawn : (d : Draft) (b : Bool) (l to : Leaf) (a tree : Tree) (k : Kind) → to ≡ with_sign b l → tree ≡ fitted l to a → k ≡ plain to → d ≡ v.Closed to k tree
    → (s : Scope) (at : Place) (x : Expr) → Itself s (out-Expr x) l a → DraftOf s (Expr-F.Sign at b x) (out-Draft d)
sign_drawn d b l to a tree k e f g h s at x i =
    let m = with_sign b l in
    let t = f ∙ ap (λ to. fitted l to a) e in
    let kind = g ∙ ap plain e in
    let same : d ≡ v.Closed m (plain m) (fitted l m a) =
    h ∙ ap (λ to. v.Closed to k tree) e ∙ ap (λ k. v.Closed m k tree) kind ∙ ap (λ tree. v.Closed m (plain m) tree) t in
    redrawn d _ (seen_closed d m (plain m) (fitted l m a) same) (closed_of (sign at b x i) (plain_leaf m))
