-- The least fault of an operand by what is asked of it, and of the right side of an assignment.
use Rattle.std.proofs.Common.{◌≡◌, ℕ, Bool, List, [], ◌∷◌, map, refl, subst}
use Rattle.std.specs.Prelude.{true, false, Option, Some, None}
use Rattle.nt_value.specs.Digits.{LeafValue}
use Rattle.nt_value.specs.declared.leaf.Leaf.{Leaf}
use Rattle.nt_value.specs.declared.place.Place.{Place}
use Rattle.nt_diag.specs.declared.rule.Rule.{Rule}
use Rattle.nt_diag.specs.declared.rule.Rule.TheVariants as rule
use Rattle.nt_diag.specs.declared.refusal.Refusal.{Refusal}
use Rattle.nt_diag.specs.Order.{NoLater}
use Rattle.nt_ast.specs.declared.expr.Key.{Key}
use Rattle.nt_ast.specs.declared.expr.Expr.{Expr}
use Rattle.nt_ast.specs.declared.expr.Expr.TheOpen.{Expr-F}
use Rattle.nt_ast.specs.Places.{Node, place_of, Placed, pattern_in}
use Rattle.nt_const.specs.Tells.{RefusesWhole, refusal}
use Rattle.nt_kinds.specs.declared.kind.Kind.{Kind}
use Rattle.nt_typing.specs.declared.scope.Scope.{Scope}
use Rattle.nt_typing.specs.Kinds.{leaf_of}
use Rattle.nt_typing.specs.Names.{constants}
use Rattle.nt_typing.specs.Constants.{Constant}
use Rattle.nt_typing.specs.Tables.{thing_leaf, planned}
use Rattle.nt_typing.specs.declared.thing.Thing.{Thing}
use Rattle.nt_typing.specs.Typing.{Stands, Alone}
use Rattle.nt_typing.specs.Faults.{Need, leaf, base, goes, Meets, is_constant, Asked, all_go, Fault, Among, here, there, Misses, leaf_faulty, leaf_missing, base_faulty, base_missing, inconstant, unmet, not_going, Flowing, is_pattern, GoesTo, FaultTo, faulty, no_leaf, unlike, no_value, unplanned, in_item}
use Rattle.nt_typing.specs.Places.{exprs, Refuses, RefusesOperand, RefusesTo, Scattered, nowhere, somewhere, RefusesSome}
use Rattle.nt_typing.proofs.One.{some_none, no_pattern, there_one}
use Rattle.nt_typing.proofs.Excluded.{no_fault, no_fault_stands, no_inconstant}
use Rattle.nt_typing.proofs.Least.{same, EachIn, none_in, more_in, plan_in, plan_asked, items_in}

scattered : {f i j : ℕ} {xs : List Expr} → EachIn f i j xs → Scattered f xs
scattered none_in = nowhere
scattered (more_in x xs p lo hi r) = somewhere x xs p (scattered r)

module _ {s : Scope} where
  -- ---- a base
  least_base : (x : Node) (r : Refusal) → Refuses s x r → (f i j : ℕ) → Placed f i j x → (t : Rule) (q : Place) → Misses s base x t q → NoLater r (refusal t q)
  least_base x r h f i j a t q (base_faulty g) = h.least _ _ _ a t q g
  least_base x r h f i j a t q (base_missing w b) = absurd (no_fault h.is b)
  least_base x r h f i j a t q (inconstant e g) = cc
  least_base x r h f i j a t q (unmet e u n) = cc

  pub refuse_base : (x : Node) (r : Refusal) → Refuses s x r → RefusesOperand s base x r
  refuse_base x r h = record { is = base_faulty h.is; least = least_base x r h }

  least_flowing : (x : Node) (l : Leaf) → Flowing x → Alone s x l → (f i j : ℕ) → Placed f i j x → (t : Rule) (q : Place) → Misses s base x t q → NoLater (refusal rule.T8 (place_of x)) (refusal t q)
  least_flowing x l w b f i j a t q (base_faulty g) = absurd (no_fault g b)
  least_flowing x l w b f i j a t q (base_missing v c) = same rule.T8 (place_of x)
  least_flowing x l w b f i j a t q (inconstant e g) = cc
  least_flowing x l w b f i j a t q (unmet e u n) = cc

  pub refuse_flowing : (x : Node) (l : Leaf) → Flowing x → Alone s x l → RefusesOperand s base x (refusal rule.T8 (place_of x))
  refuse_flowing x l w b = record { is = base_missing w b; least = least_flowing x l w b }

  -- ---- what must be constant
  least_inconstant : (n : Need) (x : Node) (r : Refusal) → is_constant n ≡ true → RefusesWhole (constants s) x r
      → (f i j : ℕ) → Placed f i j x → (t : Rule) (q : Place) → Misses s n x t q → NoLater r (refusal t q)
  least_inconstant n x r c h f i j a t q (leaf_faulty g) = cc
  least_inconstant n x r c h f i j a t q (leaf_missing b e) = cc
  least_inconstant n x r c h f i j a t q (base_faulty g) = cc
  least_inconstant n x r c h f i j a t q (base_missing w b) = cc
  least_inconstant n x r c h f i j a t q (inconstant e g) = h.least _ _ _ a t q g
  least_inconstant n x r c h f i j a t q (unmet e u m) = absurd (no_inconstant h.is u)
  least_inconstant n x r c h f i j a t q (not_going g) = cc

  pub refuse_inconstant : (n : Need) (x : Node) (r : Refusal) → is_constant n ≡ true → RefusesWhole (constants s) x r → RefusesOperand s n x r
  refuse_inconstant n x r c h = record { is = inconstant c h.is; least = least_inconstant n x r c h }

  least_unmet : (n : Need) (x : Node) (v : LeafValue) → is_constant n ≡ true → Constant s x v
      → (f i j : ℕ) → Placed f i j x → (t : Rule) (q : Place) → Misses s n x t q → NoLater (refusal rule.T3 (place_of x)) (refusal t q)
  least_unmet n x v c u f i j a t q (leaf_faulty g) = cc
  least_unmet n x v c u f i j a t q (leaf_missing b e) = cc
  least_unmet n x v c u f i j a t q (base_faulty g) = cc
  least_unmet n x v c u f i j a t q (base_missing w b) = cc
  least_unmet n x v c u f i j a t q (inconstant e g) = absurd (no_inconstant g u)
  least_unmet n x v c u f i j a t q (unmet e w m) = same rule.T3 (place_of x)
  least_unmet n x v c u f i j a t q (not_going g) = cc

  pub refuse_unmet : (n : Need) (x : Node) (v : LeafValue) → is_constant n ≡ true → Constant s x v → (Meets n v → ⊥) → RefusesOperand s n x (refusal rule.T3 (place_of x))
  refuse_unmet n x v c u m = record { is = unmet c u m; least = least_unmet n x v c u }

  -- ---- what goes to a type
  least_going : (k : Kind) (x : Node) (r : Refusal) → RefusesTo s x k r → (f i j : ℕ) → Placed f i j x → (t : Rule) (q : Place) → Misses s (goes k) x t q → NoLater r (refusal t q)
  least_going k x r h f i j a t q (not_going g) = h.least _ _ _ a t q g
  least_going k x r h f i j a t q (inconstant e g) = cc
  least_going k x r h f i j a t q (unmet e u m) = cc

  pub refuse_going : (k : Kind) (x : Node) (r : Refusal) → RefusesTo s x k r → RefusesOperand s (goes k) x r
  refuse_going k x r h = record { is = not_going h.is; least = least_going k x r h }

  least_faulty : (x : Node) (k : Kind) (r : Refusal) → is_pattern x ≡ false → Refuses s x r → (f i j : ℕ) → Placed f i j x → (t : Rule) (q : Place) → FaultTo s x k t q → NoLater r (refusal t q)
  least_faulty x k r p h f i j a t q (faulty e g) = h.least _ _ _ a t q g
  least_faulty x k r p h f i j a t q (no_leaf e b) = absurd (no_fault h.is b)
  least_faulty x k r p h f i j a t q (unlike b e g m) = absurd (no_fault_stands h.is b)
  least_faulty x k r p h f i j a t q (no_value b e g) = absurd (no_fault_stands h.is b)
  least_faulty x k r p h f i j a t q (unplanned at items e) = cc
  least_faulty x k r p h f i j a t q (in_item at items e g) = cc

  pub refuse_faulty : (x : Node) (k : Kind) (r : Refusal) → is_pattern x ≡ false → Refuses s x r → RefusesTo s x k r
  refuse_faulty x k r p h = record { is = faulty p h.is; least = least_faulty x k r p h }

  least_no_leaf : (x : Node) (k : Kind) (l : Leaf) → Alone s x l → (t : Rule) (q : Place) → FaultTo s x k t q → NoLater (refusal rule.T8 (place_of x)) (refusal t q)
  least_no_leaf x k l b t q (faulty e g) = absurd (no_fault g b)
  least_no_leaf x k l b t q (no_leaf e c) = same rule.T8 (place_of x)
  least_no_leaf x k l b t q (unlike c e g m) = same rule.T8 (place_of x)
  least_no_leaf x k l b t q (no_value c e g) = same rule.T8 (place_of x)
  least_no_leaf x k l b t q (unplanned at items e) = absurd (no_pattern b)
  least_no_leaf x k l b t q (in_item at items e g) = absurd (no_pattern b)

  pub refuse_no_leaf : (x : Node) (k : Kind) (l : Leaf) → leaf_of k ≡ None → Alone s x l → RefusesTo s x k (refusal rule.T8 (place_of x))
  refuse_no_leaf x k l e b = record { is = no_leaf e b; least = λ f i j a t q g. least_no_leaf x k l b t q g }

  least_stands : (x : Node) (k : Kind) (h : Thing) → Stands s x h → (t : Rule) (q : Place) → FaultTo s x k t q → NoLater (refusal rule.T8 (place_of x)) (refusal t q)
  least_stands x k h b t q (faulty e g) = absurd (no_fault_stands g b)
  least_stands x k h b t q (no_leaf e c) = same rule.T8 (place_of x)
  least_stands x k h b t q (unlike c e g m) = same rule.T8 (place_of x)
  least_stands x k h b t q (no_value c e g) = same rule.T8 (place_of x)
  least_stands x k h b t q (unplanned at items e) = elim b [ ]
  least_stands x k h b t q (in_item at items e g) = elim b [ ]

  pub refuse_unlike : (x : Node) (k : Kind) (h : Thing) → Stands s x h → thing_leaf h ≡ None → leaf_of k ≡ None → (GoesTo h k → ⊥) → RefusesTo s x k (refusal rule.T8 (place_of x))
  refuse_unlike x k h b e g m = record { is = unlike b e g m; least = λ f i j a t q g. least_stands x k h b t q g }

  pub refuse_no_value : (x : Node) (k : Kind) (h : Thing) (to : Leaf) → Stands s x h → thing_leaf h ≡ None → leaf_of k ≡ Some to → RefusesTo s x k (refusal rule.T8 (place_of x))
  refuse_no_value x k h to b e g = record { is = no_value b e g; least = λ f i j a t q g. least_stands x k h b t q g }

  -- ---- patterns
  least_unplanned : (k : Kind) (at : Place) (items : List (Option Key × Expr)) → planned k items ≡ None → (t : Rule) (q : Place) → FaultTo s (Expr-F.Pattern at items) k t q → NoLater (refusal rule.T8 at) (refusal t q)
  least_unplanned k at items n t q (faulty e g) = cc
  least_unplanned k at items n t q (no_leaf e b) = absurd (no_pattern b)
  least_unplanned k at items n t q (unlike b e g m) = elim b [ ]
  least_unplanned k at items n t q (no_value b e g) = elim b [ ]
  least_unplanned k at items n t q (unplanned _ _ e) = same rule.T8 at
  least_unplanned k at items n t q (in_item _ _ e g) = absurd (some_none refl e n)

  pub refuse_unplanned : (k : Kind) (at : Place) (items : List (Option Key × Expr)) → planned k items ≡ None → RefusesTo s (Expr-F.Pattern at items) k (refusal rule.T8 at)
  refuse_unplanned k at items n = record { is = unplanned at items n; least = λ f i j a t q g. least_unplanned k at items n t q g }

  least_item : (k : Kind) (at : Place) (items : List (Option Key × Expr)) (plan : List (Expr × Kind)) (r : Refusal) → planned k items ≡ Some plan → RefusesSome s (all_go plan) r
      → (f i j : ℕ) → Placed f i j (Expr-F.Pattern at items) → (t : Rule) (q : Place) → FaultTo s (Expr-F.Pattern at items) k t q → NoLater r (refusal t q)
  least_item k at items plan r n h f i j a t q (faulty e g) = cc
  least_item k at items plan r n h f i j a t q (no_leaf e b) = absurd (no_pattern b)
  least_item k at items plan r n h f i j a t q (unlike b e g m) = elim b [ ]
  least_item k at items plan r n h f i j a t q (no_value b e g) = elim b [ ]
  least_item k at items plan r n h f i j a t q (unplanned _ _ e) = absurd (some_none refl n e)
  least_item k at items plan r n h f i j (pattern_in w z) t q (in_item _ _ e g) =
      h.least f (scattered (plan_asked plan (plan_in _ items plan (items_in z) n))) t q (subst (λ plan. Among s (all_go plan) t q) (there_one refl e n) g)

  pub refuse_item : (k : Kind) (at : Place) (items : List (Option Key × Expr)) (plan : List (Expr × Kind)) (r : Refusal) → planned k items ≡ Some plan → RefusesSome s (all_go plan) r → RefusesTo s (Expr-F.Pattern at items) k r
  refuse_item k at items plan r n h = record { is = in_item at items n h.is; least = least_item k at items plan r n h }
