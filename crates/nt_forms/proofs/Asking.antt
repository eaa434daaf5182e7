-- What a draft is as an operand.
use Rattle.std.proofs.Common.{◌≡◌, Some, None, Result, refl, sym, subst}
use Rattle.nt_value.specs.declared.leaf.Leaf.{Leaf}
use Rattle.nt_value.specs.declared.literal.Literal.{Literal}
use Rattle.nt_value.specs.declared.operator.Unary.{Unary}
use Rattle.nt_value.specs.declared.operator.Binary.{Binary}
use Rattle.nt_value.specs.declared.place.Place.{Place}
use Rattle.nt_diag.specs.declared.rule.Rule.{Rule}
use Rattle.nt_diag.specs.declared.rule.Rule.TheVariants as rule
use Rattle.nt_diag.specs.declared.refusal.Fault.{Fault as Failure}
use Rattle.nt_diag.specs.declared.refusal.Fault.TheVariants as fault
use Rattle.nt_ast.specs.Places.{Node, place_of}
use Rattle.nt_const.specs.Tells.{refusal}
use Rattle.nt_design.specs.declared.tree.Tree.{Tree}
use Rattle.nt_kinds.specs.declared.kind.Kind.{Kind}
use Rattle.nt_typing.specs.declared.scope.Scope.{Scope}
use Rattle.nt_typing.specs.declared.thing.Thing.{Thing}
use Rattle.nt_typing.specs.declared.thing.Thing.TheVariants.{Value as value, Many as many}
use Rattle.nt_typing.specs.Typing.{Stands, Alone, literal, unary, binary, choose, Itself, itself}
use Rattle.nt_typing.specs.Faults.{Need, leaf, base, literal_flows, unary_flows, binary_flows, choose_flows}
use Rattle.nt_typing.specs.Places.{RefusesOperand}
use Rattle.nt_typing.proofs.Least.{refuse_missing}
use Rattle.nt_typing.proofs.LeastTo.{refuse_flowing}
use Rattle.nt_drafts.specs.Drafts.{DraftOf, closed_of, whole_of, many_of, literal_of, unary_of, binary_of, choose_of, draft_leaf, draft_tree}
use Rattle.nt_drafts.specs.declared.drafts.Draft.{Draft}
use Rattle.nt_drafts.specs.declared.drafts.Draft.TheOpen.{Draft-F}
use Rattle.nt_drafts.specs.declared.drafts.Draft.TheViews.{out-Draft}
use Rattle.nt_drafts.proofs.Become.{become}
use Rattle.nt_drafts.specs.Gives.{Gives}
use Rattle.nt_drafts.specs.declared.unfit.Unfit.{Unfit}
use Rattle.nt_forms.specs.Walks.{Lacks, IsLeafed}
use Rattle.nt_forms.specs.declared.operands.Leafed.{Leafed}

-- ---- a draft by its first node
pub drawn : {s : Scope} {x : Node} (d : Draft) (n : Draft-F Draft) → out-Draft d ≡ n → DraftOf s x (out-Draft d) → DraftOf s x n
drawn {s = s} {x = x} d n e h = subst (DraftOf s x) e h

pub redrawn : {s : Scope} {x : Node} (d : Draft) (n : Draft-F Draft) → out-Draft d ≡ n → DraftOf s x n → DraftOf s x (out-Draft d)
redrawn {s = s} {x = x} d n e h = subst (DraftOf s x) (sym e) h

-- ---- bases
pub stands_closed : {s : Scope} {x : Node} {l : Leaf} {k : Kind} {a : Tree} → DraftOf s x (Draft-F.Closed l k a) → Stands s x (value k a)
stands_closed (closed_of h e) = h

pub stands_whole : {s : Scope} {x : Node} {k : Kind} {a : Tree} → DraftOf s x (Draft-F.Whole k a) → Stands s x (value k a)
stands_whole (whole_of h e) = h

pub stands_many : {s : Scope} {x : Node} {k : Kind} → DraftOf s x (Draft-F.Many k) → Stands s x (many k)
stands_many (many_of h) = h

pub flows_literal : {s : Scope} {x : Node} {l : Leaf} {n : Literal} → DraftOf s x (Draft-F.Literal l n) → RefusesOperand s base x (refusal rule.T8 (place_of x))
flows_literal (literal_of at n w) = refuse_flowing _ _ (literal_flows at n) (literal at n w)

pub flows_unary : {s : Scope} {x : Node} {l : Leaf} {op : Unary} {m : Leaf} {d : Draft} → DraftOf s x (Draft-F.Unary l op m d) → RefusesOperand s base x (refusal rule.T8 (place_of x))
flows_unary (unary_of at op y d a h) = refuse_flowing _ _ (unary_flows at op y) (unary at op y a)

pub flows_binary : {s : Scope} {x : Node} {l : Leaf} {op : Binary} {m n : Leaf} {d e : Draft} → DraftOf s x (Draft-F.Binary l op m d n e) → RefusesOperand s base x (refusal rule.T8 (place_of x))
flows_binary (binary_of at op y z d e a h b k) = refuse_flowing _ _ (binary_flows at op y z) (binary at op y z a b)

pub flows_choose : {s : Scope} {x : Node} {l : Leaf} {test : Tree} {d e : Draft} → DraftOf s x (Draft-F.Choose l test d e) → RefusesOperand s base x (refusal rule.T8 (place_of x))
flows_choose (choose_of at z y w d e (itself _ p u) a h b k) = refuse_flowing _ _ (choose_flows at z y w) (choose at z y w p a b)

-- a refusal at the operand's place
pub lacks_at : (n : Need) (s : Scope) (x : Node) (r : Rule) (at : Place) (f : Failure) → f ≡ fault.Refused (refusal r at) → at ≡ place_of x → RefusesOperand s n x (refusal r (place_of x)) → Lacks n s x f
lacks_at n s x r at f e p h = subst (λ f. Lacks n s x f) (sym e) (subst (λ at. RefusesOperand s n x (refusal r at)) (sym p) h)

-- ---- leaves
missing_at : {s : Scope} {x : Node} (n : Draft-F Draft) → DraftOf s x n → draft_leaf n ≡ None → RefusesOperand s leaf x (refusal rule.T8 (place_of x))
missing_at _ (closed_of h e) g = cc
missing_at _ (whole_of {k = k} {a = a} h e) g = refuse_missing _ (value k a) h e
missing_at _ (many_of {k = k} h) g = refuse_missing _ (many k) h refl
missing_at _ (literal_of at n w) g = cc
missing_at _ (unary_of at op y d a h) g = cc
missing_at _ (binary_of at op y z d e a h b k) g = cc
missing_at _ (choose_of at z y w d e p a h b k) g = cc

pub missing : {s : Scope} {x : Node} (d : Draft) → DraftOf s x (out-Draft d) → draft_leaf (out-Draft d) ≡ None → RefusesOperand s leaf x (refusal rule.T8 (place_of x))
missing d h e = missing_at (out-Draft d) h e

pub alone_of : {s : Scope} {x : Node} (one : Leafed) → IsLeafed s x one → Alone s x one.size
alone_of {s = s} {x = x} one h = become.leaf s x one.draft one.size h.0 h.1

pub itself_of : {s : Scope} {x : Node} (d : Draft) (l : Leaf) (a : Tree) → a ≡ draft_tree d l → DraftOf s x (out-Draft d) → draft_leaf (out-Draft d) ≡ Some l → Itself s x l a
itself_of {s = s} {x = x} d l a e h g = subst (λ a. Itself s x l a) (sym e) (itself x (become.leaf s x d l h g) (become.tree s x d l l h g))

pub gives_at : (table : Result Thing Rule) (r q : Result Thing Unfit) → r ≡ q → Gives table r → Gives table q
gives_at table r q e g = subst (λ r. Gives table r) e g
