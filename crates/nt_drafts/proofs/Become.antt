-- A draft becomes its expression's tree.
use Rattle.std.proofs.Common.{◌≡◌, Some, None, refl, sym, ap, subst}
use Rattle.nt_value.specs.declared.leaf.Leaf.{Leaf}
use Rattle.nt_ast.specs.Places.{Node}
use Rattle.nt_ast.specs.declared.expr.Expr.TheViews.{out-Expr}
use Rattle.nt_design.specs.declared.tree.Tree.{Tree}
use Rattle.nt_typing.specs.declared.scope.Scope.{Scope}
use Rattle.nt_typing.specs.Typing.{Alone, stands, literal, unary, binary, choose, Typed, stands_in, literal_within, unary_within, binary_within, choose_within, itself}
use Rattle.nt_typing.proofs.Excluded.{leaf_not_none}
use Rattle.nt_drafts.specs.Drafts.{DraftOf, closed_of, whole_of, many_of, literal_of, unary_of, binary_of, choose_of, draft_leaf, draft_tree, tree_step}
use Rattle.nt_drafts.specs.Laws.{DraftsBecome}
use Rattle.nt_drafts.specs.declared.drafts.Draft.{Draft}
use Rattle.nt_drafts.specs.declared.drafts.Draft.TheOpen.{Draft-F}
use Rattle.nt_drafts.specs.declared.drafts.Draft.TheViews.{out-Draft}
use Rattle.nt_drafts.specs.declared.drafts.Draft.TheFolds.{fold_out-Draft, map-Draft}

-- the tree of a first node
abbrev tree_at : Draft-F Draft → Leaf → Tree
tree_at n c = tree_step (map-Draft Draft (Leaf → Tree) draft_tree n) c

opened : (d : Draft) (c : Leaf) → draft_tree d c ≡ tree_at (out-Draft d) c
opened d c = ap (λ f. f c) (fold_out-Draft (Leaf → Tree) tree_step d)

some_leaf : {A : Type 0} {a b : A} → Some a ≡ Some b → a ≡ b
some_leaf e = cc

leaf_is : {s : Scope} {x : Node} {n : Draft-F Draft} {l : Leaf} → DraftOf s x n → draft_leaf n ≡ Some l → Alone s x l
leaf_is {s = s} {x = x} (closed_of h e) g = subst (Alone s x) (some_leaf g) (stands h e)
leaf_is (whole_of h e) g = cc
leaf_is (many_of h) g = cc
leaf_is {s = s} {x = x} (literal_of at v w) g = subst (Alone s x) (some_leaf g) (literal at v w)
leaf_is {s = s} {x = x} (unary_of at op y d a h) g = subst (Alone s x) (some_leaf g) (unary at op y a)
leaf_is {s = s} {x = x} (binary_of at op y z d e a h b k) g = subst (Alone s x) (some_leaf g) (binary at op y z a b)
leaf_is {s = s} {x = x} (choose_of at z y w d e (itself _ p u) a h b k) g = subst (Alone s x) (some_leaf g) (choose at z y w p a b)

leafless : {s : Scope} {x : Node} {n : Draft-F Draft} {l : Leaf} → DraftOf s x n → draft_leaf n ≡ None → Alone s x l → ⊥
leafless (closed_of h e) g a = cc
leafless (whole_of h e) g a = leaf_not_none a h e
leafless (many_of h) g a = leaf_not_none a h refl
leafless (literal_of at v w) g a = cc
leafless (unary_of at op y d b h) g a = cc
leafless (binary_of at op y z d e b h k m) g a = cc
leafless (choose_of at z y w d e p b h k m) g a = cc

-- what has a leaf has a draft with one
leafed : {s : Scope} {x : Node} {n : Draft-F Draft} {l : Leaf} → DraftOf s x n → Alone s x l → (m : Leaf) × (draft_leaf n ≡ Some m)
leafed (closed_of {l = l} h e) a = (l, refl)
leafed (whole_of h e) a = absurd (leaf_not_none a h e)
leafed (many_of h) a = absurd (leaf_not_none a h refl)
leafed (literal_of at v w) a = (v.bits.leaf, refl)
leafed (unary_of at op y d b h) a = (_, refl)
leafed (binary_of at op y z d e b h k m) a = (_, refl)
leafed (choose_of at z y w d e p b h k m) a = (_, refl)

becomes : {s : Scope} {x : Node} {n : Draft-F Draft} {l : Leaf} (c : Leaf) → DraftOf s x n → draft_leaf n ≡ Some l → Typed s x c (tree_at n c)
becomes c (closed_of h e) g = stands_in h e
becomes c (whole_of h e) g = cc
becomes c (many_of h) g = cc
becomes c (literal_of at v w) g = literal_within at v
becomes {s = s} c (unary_of at op y d a h) g =
    unary_within at op y a (subst (Typed s (out-Expr y) _) (sym (opened d _)) (becomes _ h (leafed h a).1))
becomes {s = s} c (binary_of at op y z d e a h b k) g =
    binary_within at op y z a b (subst (Typed s (out-Expr y) _) (sym (opened d _)) (becomes _ h (leafed h a).1)) (subst (Typed s (out-Expr z) _) (sym (opened e _)) (becomes _ k (leafed k b).1))
becomes {s = s} c (choose_of at z y w d e p a h b k) g =
    choose_within at z y w p (subst (Typed s (out-Expr y) c) (sym (opened d c)) (becomes c h (leafed h a).1)) (subst (Typed s (out-Expr w) c) (sym (opened e c)) (becomes c k (leafed k b).1))

pub become : DraftsBecome
become = record {
  leaf = λ s x d l h e. leaf_is h e;
  leafless = λ s x d l h e a. leafless h e a;
  tree = λ s x d l c h e. subst (Typed s x c) (sym (opened d c)) (becomes c h e);
}
