-- The tree that a draft becomes, by its first node.
use Rattle.std.proofs.Common.{◌≡◌, IfOk, Result, sym, ◌∙◌, ap, subst}
use Rattle.std.specs.declared.alloc.AllocError.{AllocError}
use Rattle.nt_value.specs.declared.leaf.Leaf.{Leaf}
use Rattle.nt_value.specs.declared.operator.Unary.{Unary}
use Rattle.nt_value.specs.declared.operator.Binary.{Binary}
use Rattle.nt_const.specs.Tables.{unary_in}
use Rattle.nt_design.specs.Shapes.{unary_answer, binary_answer}
use Rattle.nt_design.specs.declared.tree.Tree.{Tree}
use Rattle.nt_design.specs.declared.tree.Tree.TheVariants as t
use Rattle.nt_kinds.specs.declared.kind.Kind.{Kind}
use Rattle.nt_typing.specs.Tables.{left_context, right_context, fitted}
use Rattle.nt_drafts.specs.Drafts.{draft_tree, tree_step}
use Rattle.nt_drafts.specs.declared.drafts.Draft.{Draft}
use Rattle.nt_drafts.specs.declared.drafts.Draft.TheOpen.{Draft-F}
use Rattle.nt_drafts.specs.declared.drafts.Draft.TheVariants as v
use Rattle.nt_drafts.specs.declared.drafts.Draft.TheViews.{roll-Draft}
use Rattle.nt_drafts.specs.declared.drafts.Draft.TheFolds.{fold-roll-Draft}
use denote.Hole.Carrier.{roll}

pub closed_is : (l : Leaf) (kind : Kind) (a : Tree) (c : Leaf) → draft_tree (v.Closed l kind a) c ≡ fitted l c a
unfolding roll-Draft roll
closed_is l kind a c = ap (λ f. f c) (fold-roll-Draft (Leaf → Tree) tree_step (Draft-F.Closed l kind a))

pub unary_is : (l : Leaf) (op : Unary) (inner : Leaf) (x : Draft) (c : Leaf) → draft_tree (v.Unary l op inner x) c ≡ fitted (unary_answer op (unary_in op c inner)) c (t.Unary op (draft_tree x (unary_in op c inner)))
unfolding roll-Draft roll
unary_is l op inner x c = ap (λ f. f c) (fold-roll-Draft (Leaf → Tree) tree_step (Draft-F.Unary l op inner x))

pub binary_is : (l : Leaf) (op : Binary) (first : Leaf) (x : Draft) (second : Leaf) (y : Draft) (c : Leaf) → draft_tree (v.Binary l op first x second y) c ≡ fitted (binary_answer op (left_context op c first second) (right_context op c first second)) c (t.Binary op (draft_tree x (left_context op c first second)) (draft_tree y (right_context op c first second)))
unfolding roll-Draft roll
binary_is l op first x second y c = ap (λ f. f c) (fold-roll-Draft (Leaf → Tree) tree_step (Draft-F.Binary l op first x second y))

-- an answer that is one tree is another that is equal
pub same_answer : (r : Result Tree AllocError) (a b : Tree) → a ≡ b → IfOk r (λ z. z ≡ a) → IfOk r (λ z. z ≡ b)
same_answer r a b e h = subst (λ x. IfOk r (λ z. z ≡ x)) e h

pub two : {A B C : Type 0} (f : A → B → C) {a c : A} {b d : B} → a ≡ c → b ≡ d → f a b ≡ f c d
two f {a = a} {c = c} {b = b} {d = d} e g = ap (λ a. f a b) e ∙ ap (f c) g

pub unary_closed : (l : Leaf) (op : Unary) (inner : Leaf) (x : Draft) (c operand answer : Leaf) (of tree : Tree)
    → operand ≡ unary_in op c inner → of ≡ draft_tree x operand → tree ≡ t.Unary op of → answer ≡ unary_answer op operand
    → fitted answer c tree ≡ draft_tree (v.Unary l op inner x) c
unary_closed l op inner x c operand answer of tree e f g h =
    two (λ n a. fitted n c a) (h ∙ ap (unary_answer op) e) (g ∙ ap (t.Unary op) (f ∙ ap (draft_tree x) e)) ∙ sym (unary_is l op inner x c)

pub binary_closed : (l : Leaf) (op : Binary) (first : Leaf) (x : Draft) (second : Leaf) (y : Draft) (c a b answer : Leaf) (left right tree : Tree)
    → a ≡ left_context op c first second → b ≡ right_context op c first second → left ≡ draft_tree x a → right ≡ draft_tree y b
    → tree ≡ t.Binary op left right → answer ≡ binary_answer op a b → fitted answer c tree ≡ draft_tree (v.Binary l op first x second y) c
binary_closed l op first x second y c a b answer left right tree e f g h i j =
    two (λ n z. fitted n c z) (j ∙ two (binary_answer op) e f) (i ∙ two (t.Binary op) (g ∙ ap (draft_tree x) e) (h ∙ ap (draft_tree y) f)) ∙ sym (binary_is l op first x second y c)
