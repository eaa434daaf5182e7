-- The right side of an assignment to a type.
use Rattle.std.proofs.Common.{◌≡◌, Some, None, Err, refl, sym, ap, subst, ◌∙◌}
use Rattle.nt_value.specs.declared.leaf.Leaf.{Leaf}
use Rattle.nt_value.specs.declared.place.Place.{Place}
use Rattle.nt_diag.specs.declared.rule.Rule.TheVariants as rule
use Rattle.nt_diag.specs.declared.refusal.Fault.{Fault as Failure}
use Rattle.nt_diag.specs.declared.refusal.Fault.TheVariants as fault
use Rattle.nt_ast.specs.Places.{Node, place_of}
use Rattle.nt_const.specs.Tells.{refusal}
use Rattle.nt_design.specs.declared.tree.Tree.{Tree}
use Rattle.nt_kinds.specs.Kinds.{Equivalent}
use Rattle.nt_kinds.specs.declared.kind.Kind.{Kind}
use Rattle.nt_kinds.specs.declared.kind.Kind.TheViews.{out-Kind}
use Rattle.nt_typing.specs.declared.scope.Scope.{Scope}
use Rattle.nt_typing.specs.declared.thing.Thing.TheVariants.{Value as value, Many as many}
use Rattle.nt_typing.specs.Kinds.{leaf_of}
use Rattle.nt_typing.specs.Tables.{wider, fitted}
use Rattle.nt_typing.specs.Typing.{stands, Goes, to_leaf, to_kind}
use Rattle.nt_typing.specs.Places.{RefusesTo}
use Rattle.nt_typing.proofs.LeastTo.{refuse_no_leaf, refuse_unlike, refuse_no_value}
use Rattle.nt_drafts.specs.Drafts.{DraftOf, closed_of, whole_of, many_of, literal_of, unary_of, binary_of, choose_of, draft_leaf, draft_tree}
use Rattle.nt_drafts.specs.declared.drafts.Draft.{Draft}
use Rattle.nt_drafts.specs.declared.drafts.Draft.TheOpen.{Draft-F}
use Rattle.nt_drafts.specs.declared.drafts.Draft.TheViews.{out-Draft}
use Rattle.nt_drafts.proofs.Become.{become}
use Rattle.nt_forms.specs.Walks.{Sends, UsableDraft}
use Rattle.nt_things.specs.Usable.{UsableScope}
use Rattle.nt_things.proofs.Using.{stands_is}

pub sends_at : (s : Scope) (x : Node) (k : Kind) (at : Place) (f : Failure) → f ≡ fault.Refused (refusal rule.T8 at) → at ≡ place_of x → RefusesTo s x k (refusal rule.T8 (place_of x)) → Sends s x k (Err f)
sends_at s x k at f e p h = subst (λ f. Sends s x k (Err f)) (sym e) (subst (λ at. RefusesTo s x k (refusal rule.T8 at)) (sym p) h)

-- to a leaf
no_value_at : {s : Scope} {x : Node} (k : Kind) (to : Leaf) (n : Draft-F Draft) → leaf_of k ≡ Some to → DraftOf s x n → draft_leaf n ≡ None → RefusesTo s x k (refusal rule.T8 (place_of x))
no_value_at k to _ w (closed_of h e) g = cc
no_value_at k to _ w (whole_of {k = j} {a = a} h e) g = refuse_no_value _ k (value j a) to h e w
no_value_at k to _ w (many_of {k = j} h) g = refuse_no_value _ k (many j) to h refl w
no_value_at k to _ w (literal_of at n v) g = cc
no_value_at k to _ w (unary_of at op y d a h) g = cc
no_value_at k to _ w (binary_of at op y z d e a h b m) g = cc
no_value_at k to _ w (choose_of at z y v d e p a h b m) g = cc

pub no_value_drawn : {s : Scope} {x : Node} (k : Kind) (to : Leaf) (d : Draft) → leaf_of k ≡ Some to → DraftOf s x (out-Draft d) → draft_leaf (out-Draft d) ≡ None → RefusesTo s x k (refusal rule.T8 (place_of x))
no_value_drawn k to d w h e = no_value_at k to (out-Draft d) w h e

pub leaf_goes : {s : Scope} {x : Node} (k : Kind) (to l c : Leaf) (d : Draft) (a b : Tree) → leaf_of k ≡ Some to → DraftOf s x (out-Draft d) → draft_leaf (out-Draft d) ≡ Some l
    → c ≡ wider to l → a ≡ draft_tree d c → b ≡ fitted c to a → Goes s x k b
leaf_goes {s = s} {x = x} k to l c d a b w h e f g i =
    let same : b ≡ fitted (wider to l) to (draft_tree d (wider to l)) = i ∙ ap (λ a. fitted c to a) g ∙ ap (λ c. fitted c to (draft_tree d c)) f in
    subst (Goes s x k) (sym same) (to_leaf x w (become.leaf s x d l h e) (become.tree s x d l (wider to l) h e))

-- to a structure or an array
pub no_leaf_closed : {s : Scope} {x : Node} {l : Leaf} {j : Kind} {a : Tree} (k : Kind) → leaf_of k ≡ None → DraftOf s x (Draft-F.Closed l j a) → RefusesTo s x k (refusal rule.T8 (place_of x))
no_leaf_closed {l = l} k w (closed_of h e) = refuse_no_leaf _ k l w (stands h e)

pub no_leaf_many : {s : Scope} {x : Node} {j : Kind} (k : Kind) → leaf_of k ≡ None → DraftOf s x (Draft-F.Many j) → RefusesTo s x k (refusal rule.T8 (place_of x))
no_leaf_many {j = j} k w (many_of h) = refuse_unlike _ k (many j) h refl w (λ z. z)

pub no_leaf_drawn : {s : Scope} {x : Node} {l : Leaf} (k : Kind) (d : Draft) → leaf_of k ≡ None → DraftOf s x (out-Draft d) → draft_leaf (out-Draft d) ≡ Some l → RefusesTo s x k (refusal rule.T8 (place_of x))
no_leaf_drawn {s = s} {x = x} {l = l} k d w h e = refuse_no_leaf x k l w (become.leaf s x d l h e)

pub whole_goes : {s : Scope} {x : Node} {j k : Kind} {a : Tree} → leaf_of k ≡ None → DraftOf s x (Draft-F.Whole j a) → Equivalent (out-Kind j) (out-Kind k) → Goes s x k a
whole_goes w (whole_of h e) q = to_kind _ w h e q

pub whole_unlike : {s : Scope} {x : Node} {j : Kind} {a : Tree} (k : Kind) → leaf_of k ≡ None → DraftOf s x (Draft-F.Whole j a) → (Equivalent (out-Kind j) (out-Kind k) → ⊥) → RefusesTo s x k (refusal rule.T8 (place_of x))
whole_unlike {j = j} {a = a} k w (whole_of h e) n = refuse_unlike _ k (value j a) h e w n

-- ---- the type of a draft
pub usable_draft : {s : Scope} {x : Node} {n : Draft-F Draft} → UsableScope s → DraftOf s x n → UsableDraft n
usable_draft u (closed_of h e) = stands_is u h
usable_draft u (whole_of h e) = stands_is u h
usable_draft u (many_of h) = stands_is u h
usable_draft u (literal_of at n w) = tt
usable_draft u (unary_of at op y d a h) = tt
usable_draft u (binary_of at op y z d e a h b k) = tt
usable_draft u (choose_of at z y w d e p a h b k) = tt
