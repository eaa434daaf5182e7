-- What a draft binds its expression to.
use Rattle.std.specs.Prelude.{option_map}
use Rattle.std.proofs.Common.{◌≡◌, ◌⊎◌, ℕ, Option, Some, None, Result, Ok, Err, sym, ap, subst, inl, inr}
use Rattle.nt_value.specs.declared.leaf.Leaf.{Leaf}
use Rattle.nt_value.specs.declared.place.Place.{Place}
use Rattle.nt_diag.specs.declared.rule.Rule.{Rule}
use Rattle.nt_diag.specs.declared.rule.Rule.TheVariants as rule
use Rattle.nt_diag.specs.declared.refusal.Refusal.{Refusal}
use Rattle.nt_diag.specs.declared.refusal.Fault.{Fault as Failure}
use Rattle.nt_diag.specs.declared.refusal.Fault.TheVariants as fault
use Rattle.nt_diag.specs.Order.{NoLater}
use Rattle.nt_ast.specs.Places.{Node, place_of, Placed}
use Rattle.nt_const.specs.Tells.{refusal}
use Rattle.nt_design.specs.declared.tree.Tree.{Tree}
use Rattle.nt_kinds.specs.declared.kind.Kind.{Kind}
use Rattle.nt_typing.specs.declared.scope.Scope.{Scope}
use Rattle.nt_typing.specs.declared.thing.Thing.TheVariants.{Many as many}
use Rattle.nt_typing.specs.Typing.{Stands, itself, Binds, binds_to, binds_leaf, binds_kind}
use Rattle.nt_typing.specs.Faults.{Unbound, unbound_to, unbound, unbound_many}
use Rattle.nt_typing.specs.Places.{Refuses, RefusesTo, RefusesBinding}
use Rattle.nt_typing.proofs.Excluded.{no_fault_stands}
use Rattle.nt_typing.proofs.Least.{same}
use Rattle.nt_drafts.specs.Drafts.{DraftOf, closed_of, whole_of, many_of, literal_of, unary_of, binary_of, choose_of, draft_leaf, draft_tree, tree_step}
use Rattle.nt_drafts.specs.declared.drafts.Draft.{Draft}
use Rattle.nt_drafts.specs.declared.drafts.Draft.TheOpen.{Draft-F}
use Rattle.nt_drafts.specs.declared.drafts.Draft.TheViews.{out-Draft}
use Rattle.nt_drafts.specs.declared.drafts.Draft.TheFolds.{fold_out-Draft, map-Draft}
use Rattle.nt_drafts.proofs.Become.{become}
use Rattle.nt_forms.specs.Walks.{Drafts, Sends}
use Rattle.nt_bind.specs.Binding.{BindsTo, own_context}

abbrev tree_at : Draft-F Draft → Leaf → Tree
tree_at n c = tree_step (map-Draft Draft (Leaf → Tree) draft_tree n) c

opened : (d : Draft) (c : Leaf) → draft_tree d c ≡ tree_at (out-Draft d) c
opened d c = ap (λ f. f c) (fold_out-Draft (Leaf → Tree) tree_step d)

-- ---- a value
binds_at : {s : Scope} {x : Node} (n : Draft-F Draft) (c : Leaf) → DraftOf s x n → own_context n ≡ Some c → (draft_leaf n ≡ Some c) ⊎ Binds s x None (tree_at n c)
binds_at _ c (closed_of h e) g = inl g
binds_at _ c (whole_of h e) g = inr (binds_kind h e)
binds_at _ c (many_of h) g = cc
binds_at _ c (literal_of at v w) g = inl g
binds_at _ c (unary_of at op y d a h) g = inl g
binds_at _ c (binary_of at op y z d e a h b k) g = inl g
binds_at _ c (choose_of at z y w d e p a h b k) g = inl g

binds_by : {s : Scope} {x : Node} (d : Draft) (c : Leaf) → DraftOf s x (out-Draft d) → (draft_leaf (out-Draft d) ≡ Some c) ⊎ Binds s x None (tree_at (out-Draft d) c) → Binds s x None (draft_tree d c)
binds_by {s = s} {x = x} d c h (inl e) = binds_leaf (itself x (become.leaf s x d c h e) (become.tree s x d c c h e))
binds_by {s = s} {x = x} d c h (inr b) = subst (Binds s x None) (sym (opened d c)) b

pub alone_binds : {s : Scope} {x : Node} (d : Draft) (c : Leaf) (a : Tree) → a ≡ draft_tree d c → DraftOf s x (out-Draft d) → own_context (out-Draft d) ≡ Some c → Binds s x None a
alone_binds {s = s} {x = x} d c a e h g = subst (Binds s x None) (sym e) (binds_by d c h (binds_at (out-Draft d) c h g))

-- ---- a resolver's argument
least_many : {s : Scope} {x : Node} {k : Kind} → Stands s x (many k) → (t : Rule) (q : Place) → Unbound s x None t q → NoLater (refusal rule.T8 (place_of x)) (refusal t q)
least_many h t q (unbound g) = absurd (no_fault_stands g h)
least_many {x = x} h t q (unbound_many b) = same rule.T8 (place_of x)

refuses_at : {s : Scope} {x : Node} (n : Draft-F Draft) → DraftOf s x n → own_context n ≡ None → RefusesBinding s x None (refusal rule.T8 (place_of x))
refuses_at _ (closed_of h e) g = cc
refuses_at _ (whole_of h e) g = cc
refuses_at _ (many_of h) g = record { is = unbound_many h; least = λ f i j a t q u. least_many h t q u }
refuses_at _ (literal_of at v w) g = cc
refuses_at _ (unary_of at op y d a h) g = cc
refuses_at _ (binary_of at op y z d e a h b k) g = cc
refuses_at _ (choose_of at z y w d e p a h b k) g = cc

pub alone_refuses : (s : Scope) (x : Node) (d : Draft) (at : Place) (f : Failure) → f ≡ fault.Refused (refusal rule.T8 at) → at ≡ place_of x → DraftOf s x (out-Draft d) → own_context (out-Draft d) ≡ None → BindsTo s x None (Err f)
alone_refuses s x d at f e p h g =
    subst (λ f. BindsTo s x None (Err f)) (sym e) (subst (λ at. RefusesBinding s x None (refusal rule.T8 at)) (sym p) (refuses_at (out-Draft d) h g))

-- ---- an assignment
least_to : {s : Scope} {x : Node} {k : Kind} (r : Refusal) → RefusesTo s x k r → (f i j : ℕ) → Placed f i j x → (t : Rule) (q : Place) → Unbound s x (Some k) t q → NoLater r (refusal t q)
least_to r h f i j a t q (unbound_to g) = h.least f i j a t q g

pub sent_binds : (s : Scope) (x : Node) (k : Kind) (r : Result Tree Failure) → Sends s x k r → BindsTo s x (Some k) r
sent_binds s x k (Ok a) h = binds_to h
sent_binds s x k (Err (fault.Refused r)) h = record { is = unbound_to h.is; least = λ f i j a t q u. least_to r h f i j a t q u }
sent_binds s x k (Err (fault.OutOfMemory e)) h = tt

-- ---- a fault of the draft
least_alone : {s : Scope} {x : Node} (r : Refusal) → Refuses s x r → (f i j : ℕ) → Placed f i j x → (t : Rule) (q : Place) → Unbound s x None t q → NoLater r (refusal t q)
least_alone r h f i j a t q (unbound g) = h.least f i j a t q g
least_alone r h f i j a t q (unbound_many b) = absurd (no_fault_stands h.is b)

pub alone_err : (s : Scope) (x : Node) (r : Result Tree Failure) (f : Failure) → r ≡ Err f → Drafts s x (Err f) → BindsTo s x None r
alone_err s x r (fault.Refused e) g h = subst (BindsTo s x None) (sym g) (record { is = unbound h.is; least = λ f i j a t q u. least_alone e h f i j a t q u })
alone_err s x r (fault.OutOfMemory o) g h = subst (BindsTo s x None) (sym g) tt

pub at_target : {A : Type 0} (now : A → Kind) (s : Scope) (x : Node) (t u : Option A) (r : Result Tree Failure) → t ≡ u → BindsTo s x (option_map now u) r → BindsTo s x (option_map now t) r
at_target now s x t u r e h = subst (λ t. BindsTo s x (option_map now t) r) (sym e) h
