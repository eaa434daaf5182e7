-- What the exits of the code tell of parts.
use Rattle.std.proofs.Common.{◌≡◌, ◌⊎◌, ℕ, Bool, true, false, List, [], ◌∷◌, Option, None, Result, Ok, Err, refl, ap, sym, subst, ◌∙◌, inl, inr}
use Rattle.nt_value.specs.declared.place.Place.{Place}
use Rattle.nt_value.specs.Digits.{IsFilled, LeafValue}
use Rattle.nt_diag.specs.declared.refusal.Fault.{Fault as Failure}
use Rattle.nt_diag.specs.declared.refusal.Fault.TheVariants as fault
use Rattle.nt_diag.specs.declared.refusal.Refusal.{Refusal}
use Rattle.nt_diag.specs.declared.rule.Rule.{Rule}
use Rattle.nt_diag.specs.declared.rule.Rule.TheVariants as rule
use Rattle.nt_diag.specs.Order.{NoLater}
use Rattle.nt_ast.specs.Places.{Node, place_of}
use Rattle.nt_ast.specs.declared.expr.Expr.{Expr}
use Rattle.nt_ast.specs.declared.expr.Expr.TheViews.{out-Expr}
use Rattle.nt_const.specs.Tells.{refusal, RefusesWhole, Means}
use Rattle.nt_const.specs.Answers.{Evaluates}
use Rattle.nt_const.specs.Rules.{Names}
use Rattle.nt_design.specs.Parts.{number_in}
use Rattle.nt_design.specs.Rules.{is_delay_number}
use Rattle.nt_value.proofs.Filled.{resize_filled}
use Rattle.std.specs.Prelude.{ℤ}
use Rattle.nt_design.specs.declared.target.Target.{Target}
use Rattle.nt_design.specs.declared.tree.Tree.{Tree}
use Rattle.nt_design.specs.declared.tree.Tree.TheViews.{out-Tree}
use Rattle.nt_drafts.specs.Gives.{Gives}
use Rattle.nt_drafts.specs.declared.unfit.Unfit.{Unfit}
use Rattle.nt_drafts.specs.declared.unfit.Unfit.TheVariants.{Breaks, OutOfMemory}
use Rattle.nt_forms.specs.Walks.{fault_at, Lacks as Wants, Sends}
use Rattle.nt_kinds.specs.declared.kind.Kind.{Kind}
use Rattle.nt_typing.specs.Constants.{Constant}
use Rattle.nt_typing.specs.Faults as fa
use Rattle.nt_typing.specs.Faults.{base, FaultTo}
use Rattle.nt_typing.specs.Names.{constants, meaning_of}
use Rattle.nt_typing.specs.Tables.{thing_of}
use Rattle.nt_typing.specs.Typing as ty
use Rattle.nt_typing.specs.Typing.{Stands, Goes}
use Rattle.nt_typing.specs.declared.scope.Scope.{Scope}
use Rattle.nt_typing.specs.declared.thing.Thing.{Thing}
use Rattle.nt_typing.specs.declared.thing.Thing.TheVariants.{Value as value, Many as many}
use Rattle.nt_typing.proofs.Excluded.{no_fault_to, no_inconstant}
use Rattle.nt_typing.proofs.Least.{same, refuse_wrong}
use Rattle.nt_typing.proofs.LeastTo.{refuse_base}
use Rattle.nt_typed_stmts.specs.Lefts as l
use Rattle.nt_typed_stmts.specs.Tables.{alone, Bounds, bounds_at, bounds_of, name_node, IsDelay}
use Rattle.nt_typed_stmts.specs.Binds.{is_own_from}
use Rattle.nt_typed_stmts.specs.Faults.{assigned, deferred, delay, Unmet, here, there, left_faulty, right_faulty, deferred_left, broken, is_broken, refused_by, deferred_own, deferred_right, delay_varies, delay_outside}
use Rattle.nt_typed_stmts.specs.Places.{RefusesAsks, AsksPlaced, assigned_in, deferred_in, delay_in, more_asks}
use Rattle.nt_typed_stmts.proofs.Excluded.{no_left_fault}
use Rattle.nt_typed_stmts.proofs.One.{left_one}
use Rattle.nt_stmt_parts.specs.Parts.{BoundsAt, Leads, Lefts, RefusesLeft, IsAssigned, AssignedTo, DeferredTo, Delays}
use Rattle.nt_stmt_parts.specs.Together.{ruled}
use Rattle.nt_stmt_parts.specs.declared.lefts.Left.{Left}
use Rattle.nt_stmt_parts.specs.declared.assigned.Assigned.{Assigned}
use Rattle.nt_stmt_parts.proofs.Leasts.{one_left, one_right, one_has, refuse_misled, refuse_array, refuse_left_base, refuse_assigned_left, refuse_assigned_right}

-- ---- left sides
pub many_told : (s : Scope) (x : Node) (h : Thing) (k : Kind) (at : Place) (f : Failure) → h ≡ many k → f ≡ fault.Refused (refusal rule.T8 at) → at ≡ place_of x → Stands s x h → Lefts s x (Err f)
many_told s x h k at f i e p g =
    subst (λ f. Lefts s x (Err f)) (sym e) (subst (λ at. RefusesLeft s x (refusal rule.T8 at)) (sym p) (refuse_array x k (subst (Stands s x) i g)))

misled_by : (s : Scope) (x : Node) (k : Kind) (a : Tree) (u : Unfit) → Leads (out-Tree a) (Err u) → Stands s x (value k a) → Lefts s x (Err (fault_at u (place_of x)))
misled_by s x k a (Breaks r) m h = refuse_misled x k a r h m
misled_by s x k a (OutOfMemory e) m h = tt

pub misled_told : (s : Scope) (x : Node) (h : Thing) (k : Kind) (a : Tree) (u : Unfit) (at : Place) (f : Failure) → h ≡ value k a → f ≡ fault_at u at → at ≡ place_of x → Leads (out-Tree a) (Err u) → Stands s x h → Lefts s x (Err f)
misled_told s x h k a u at f i e p m g =
    subst (λ f. Lefts s x (Err f)) (sym (e ∙ ap (fault_at u) p)) (misled_by s x k a u m (subst (Stands s x) i g))

pub base_told : (s : Scope) (x : Node) (r : Result Left Failure) (f : Failure) → r ≡ Err f → Wants base s x f → Lefts s x r
base_told s x r (fault.Refused e) g h = subst (Lefts s x) (sym g) (refuse_left_base x e h)
base_told s x r (fault.OutOfMemory e) g h = subst (Lefts s x) (sym g) tt

pub named : (s : Scope) (at : Place) (name own : List ℕ) (h : Thing) → own ≡ name → thing_of (meaning_of s (alone at own)) ≡ Ok h → Stands s (name_node at name) h
named s at name own h e g = ty.read at (alone at name) (subst (λ n. thing_of (meaning_of s (alone at n)) ≡ Ok h) e g)

unnamed_by : (s : Scope) (at : Place) (name : List ℕ) (u : Unfit) → Gives (thing_of (meaning_of s (alone at name))) (Err u) → Lefts s (name_node at name) (Err (fault_at u at))
unnamed_by s at name (Breaks r) g = refuse_left_base (name_node at name) (refusal r at) (refuse_base (name_node at name) (refusal r at) (refuse_wrong (name_node at name) r at (fa.read at (alone at name) g)))
unnamed_by s at name (OutOfMemory e) g = tt

pub unnamed_told : (s : Scope) (at : Place) (name own : List ℕ) (u : Unfit) (f : Failure) → own ≡ name → Gives (thing_of (meaning_of s (alone at own))) (Err u) → f ≡ fault_at u at → Lefts s (name_node at name) (Err f)
unnamed_told s at name own u f e g h =
    subst (λ f. Lefts s (name_node at name) (Err f)) (sym h) (unnamed_by s at name u (subst (λ n. Gives (thing_of (meaning_of s (alone at n))) (Err u)) e g))

-- ---- what goes to them
assigned_by : (s : Scope) (x : Node) (y : Expr) (f : Failure) → Lefts s x (Err f) → AssignedTo s x y (Err f)
assigned_by s x y (fault.Refused r) h = refuse_assigned_left x y r h
assigned_by s x y (fault.OutOfMemory e) h = tt

pub assigned_left_told : (s : Scope) (x : Node) (y : Expr) (r : Result Assigned Failure) (o : Result Left Failure) (f : Failure) → r ≡ Err f → o ≡ Err f → Lefts s x o → AssignedTo s x y r
assigned_left_told s x y r o f e g h = subst (AssignedTo s x y) (sym e) (assigned_by s x y f (subst (Lefts s x) g h))

sent_by : (s : Scope) (x : Node) (y : Expr) (k : Kind) (to : Target) (f : Failure) → l.Left s x k to → Sends s (out-Expr y) k (Err f) → AssignedTo s x y (Err f)
sent_by s x y k to (fault.Refused r) g h = refuse_assigned_right x y k to r g h
sent_by s x y k to (fault.OutOfMemory e) g h = tt

pub assigned_right_told : (s : Scope) (x : Node) (y : Expr) (r : Result Assigned Failure) (o : Result Left Failure) (q : Result Tree Failure) (m : Left) (k : Kind) (f : Failure)
    → r ≡ Err f → o ≡ Ok m → q ≡ Err f → k ≡ m.kind → Sends s (out-Expr y) k q → Lefts s x o → AssignedTo s x y r
assigned_right_told s x y r o q m k f e g i n h w =
    subst (AssignedTo s x y) (sym e) (sent_by s x y m.kind m.target f (subst (Lefts s x) g w) (subst (λ k. Sends s (out-Expr y) k (Err f)) n (subst (Sends s (out-Expr y) k) i h)))

-- ---- nonblocking assignments
nothing_there : {r : Rule} {p : Place} → Unmet [] r p → ⊥
nothing_there w = elim w [ ]

true_false : {b : Bool} → b ≡ true → b ≡ false → ⊥
true_false e f = cc

module _ (s : Scope) (n : ℕ) (x : Node) (y : Expr) where
  deferred_placed : (f : ℕ) → AsksPlaced f (deferred s n x y ∷ []) → AsksPlaced f (assigned s x y ∷ [])
  deferred_placed f (more_asks _ _ (deferred_in _ _ _ _ p u) z) = more_asks _ _ (assigned_in s x y p u) z

  deferring : (t : Rule) (q : Place) → Unmet (assigned s x y ∷ []) t q → Unmet (deferred s n x y ∷ []) t q
  deferring t q (here _ _ (left_faulty _ w)) = here _ _ (deferred_left y w)
  deferring t q (here _ _ (right_faulty _ g w)) = here _ _ (deferred_right y g w)
  deferring t q (there _ _ w) = absurd (nothing_there w)

  not_deferred : (k : Kind) (to : Target) → l.Left s x k to → is_own_from n to ≡ false → (t : Rule) (q : Place) → Unmet (deferred s n x y ∷ []) t q → Unmet (assigned s x y ∷ []) t q
  not_deferred k to g e t q (here _ _ (deferred_left _ w)) = here _ _ (left_faulty y w)
  not_deferred k to g e t q (here _ _ (deferred_own _ h f)) = absurd (true_false f (subst (λ to. is_own_from n to ≡ false) (left_one g h).target e))
  not_deferred k to g e t q (here _ _ (deferred_right _ h w)) = here _ _ (right_faulty y h w)
  not_deferred k to g e t q (there _ _ w) = absurd (nothing_there w)

  own_or : (t : Rule) (q : Place) → Unmet (deferred s n x y ∷ []) t q → Unmet (assigned s x y ∷ []) t q ⊎ ((t ≡ rule.T8) × (q ≡ place_of x))
  own_or t q (here _ _ (deferred_left _ w)) = inl (here _ _ (left_faulty y w))
  own_or t q (here _ _ (deferred_own _ h f)) = inr (refl, refl)
  own_or t q (here _ _ (deferred_right _ h w)) = inl (here _ _ (right_faulty y h w))
  own_or t q (there _ _ w) = absurd (nothing_there w)

  at_left : (t : Rule) (q : Place) → (t ≡ rule.T8) × (q ≡ place_of x) → NoLater (refusal rule.T8 (place_of x)) (refusal t q)
  at_left t q e = subst (λ t. NoLater (refusal rule.T8 (place_of x)) (refusal t q)) (sym e.0) (subst (λ q. NoLater (refusal rule.T8 (place_of x)) (refusal rule.T8 q)) (sym e.1) (same rule.T8 (place_of x)))

  no_assigned : (a : Assigned) → IsAssigned s x y a → (t : Rule) (q : Place) → Unmet (assigned s x y ∷ []) t q → ⊥
  no_assigned a h t q (here _ _ (left_faulty _ w)) = no_left_fault w h.left
  no_assigned a h t q (here _ _ (right_faulty _ g w)) = no_fault_to w (subst (λ k. Goes s (out-Expr y) k a.right) (left_one h.left g).kind h.right)
  no_assigned a h t q (there _ _ w) = nothing_there w

  free_told : (k : Kind) (to : Target) → l.Left s x k to → is_own_from n to ≡ false → (a : Result Assigned Failure) → AssignedTo s x y a → DeferredTo s n x y a
  free_told k to g e (Ok a) h = record { kind = h.kind; left = h.left; free = subst (λ to. is_own_from n to ≡ false) (left_one g h.left).target e; right = h.right }
  free_told k to g e (Err (fault.Refused r)) h = record { is = deferring r.rule r.place h.is; least = λ f p t q w. h.least f (deferred_placed f p) t q (not_deferred k to g e t q w) }
  free_told k to g e (Err (fault.OutOfMemory o)) h = tt

  own_is : (k : Kind) (to : Target) → l.Left s x k to → is_own_from n to ≡ true → Unmet (deferred s n x y ∷ []) rule.T8 (place_of x)
  own_is k to g e = here _ _ (deferred_own y g e)

  own_told : (k : Kind) (to : Target) → l.Left s x k to → is_own_from n to ≡ true → (a : Result Assigned Failure) → AssignedTo s x y a → DeferredTo s n x y (ruled true rule.T8 (place_of x) a)
  own_told k to g e (Ok a) h = record {
    is = own_is k to g e;
    least = λ f p t q w. elim (own_or t q w) [ inl u ↦ absurd (no_assigned a h t q u) | inr u ↦ at_left t q u ];
  }
  own_told k to g e (Err (fault.Refused r)) h = record {
    is = one_has (λ u. Unmet (deferred s n x y ∷ []) u.rule u.place) (refusal rule.T8 (place_of x)) r (own_is k to g e) (deferring r.rule r.place h.is);
    least = λ f p t q w. elim (own_or t q w) [
      | inl u ↦ one_right (refusal rule.T8 (place_of x)) r (refusal t q) (h.least f (deferred_placed f p) t q u)
      | inr u ↦ one_left (refusal rule.T8 (place_of x)) r (refusal t q) (at_left t q u)
    ];
  }
  own_told k to g e (Err (fault.OutOfMemory o)) h = tt

  deferred_by : (b : Bool) (k : Kind) (to : Target) → l.Left s x k to → is_own_from n to ≡ b → (a : Result Assigned Failure) → AssignedTo s x y a → DeferredTo s n x y (ruled b rule.T8 (place_of x) a)
  deferred_by true k to g e a h = own_told k to g e a h
  deferred_by false k to g e a h = free_told k to g e a h

  pub deferred_told : (b : Bool) (at : Place) (o : Result Left Failure) (m : Left) (a r : Result Assigned Failure) → b ≡ is_own_from n m.target → at ≡ place_of x → o ≡ Ok m → r ≡ ruled b rule.T8 at a
      → Lefts s x o → AssignedTo s x y a → DeferredTo s n x y r
  deferred_told b at o m a r e p i g h w =
      subst (DeferredTo s n x y) (sym (g ∙ ap (λ at. ruled b rule.T8 at a) p)) (deferred_by b m.kind m.target (subst (Lefts s x) i h) (sym e) a w)

  left_first : (r : Refusal) → RefusesLeft s x r → (f : ℕ) → AsksPlaced f (deferred s n x y ∷ []) → (t : Rule) (q : Place) → Unmet (deferred s n x y ∷ []) t q → NoLater r (refusal t q)
  left_first r h f (more_asks _ _ (deferred_in _ _ _ _ p u) z) t q (here _ _ (deferred_left _ w)) = h.least _ _ _ p t q w
  left_first r h f p t q (here _ _ (deferred_own _ g e)) = absurd (no_left_fault h.is g)
  left_first r h f p t q (here _ _ (deferred_right _ g w)) = absurd (no_left_fault h.is g)
  left_first r h f p t q (there _ _ w) = absurd (nothing_there w)

  deferred_left_by : (f : Failure) → Lefts s x (Err f) → DeferredTo s n x y (Err f)
  deferred_left_by (fault.Refused r) h = let u = refuse_assigned_left x y r h in record { is = deferring r.rule r.place u.is; least = λ f p t q w. left_first r h f p t q w }
  deferred_left_by (fault.OutOfMemory e) h = tt

  pub deferred_left_told : (r : Result Assigned Failure) (o : Result Left Failure) (f : Failure) → r ≡ Err f → o ≡ Err f → Lefts s x o → DeferredTo s n x y r
  deferred_left_told r o f e g h = subst (DeferredTo s n x y) (sym e) (deferred_left_by f (subst (Lefts s x) g h))

-- ---- delays
pub small_is : (v : LeafValue) (vs : List LeafValue) (n : Option ℤ) (b : Bool) → vs ≡ v ∷ [] → n ≡ number_in vs → b ≡ is_delay_number n → is_delay_number (number_in (v ∷ [])) ≡ b
small_is v vs n b e f g = ap (λ v. is_delay_number (number_in v)) (sym e) ∙ (ap is_delay_number (sym f) ∙ sym g)

pub not_small : (v : LeafValue) → is_delay_number (number_in (v ∷ [])) ≡ false → IsDelay v → ⊥
not_small v e m = true_false m e

pub means_filled : {k : Names} {x : Node} {v : LeafValue} → Means k x None v → IsFilled v
means_filled m = subst IsFilled (sym m.is) (resize_filled m.value _)

least_varies : (s : Scope) (x : Expr) (r : Refusal) → RefusesWhole (constants s) (out-Expr x) r → (f : ℕ) → AsksPlaced f (delay s x ∷ []) → (t : Rule) (q : Place) → Unmet (delay s x ∷ []) t q → NoLater r (refusal t q)
least_varies s x r h f (more_asks _ _ (delay_in _ _ p) z) t q (here _ _ (delay_varies w)) = h.least _ _ _ p t q w
least_varies s x r h f p t q (here _ _ (delay_outside u m)) = absurd (no_inconstant h.is u)
least_varies s x r h f p t q (there _ _ w) = absurd (nothing_there w)

varies_by : (s : Scope) (x : Expr) (f : Failure) → Evaluates (constants s) (out-Expr x) None (Err f) → Delays s x (Err f)
varies_by s x (fault.Refused r) h = record { is = here _ _ (delay_varies h.is); least = least_varies s x r h }
varies_by s x (fault.OutOfMemory e) h = tt

pub varies_told : (s : Scope) (x : Expr) (r : Result Tree Failure) (f : Failure) → r ≡ Err f → Evaluates (constants s) (out-Expr x) None (Err f) → Delays s x r
varies_told s x r f e h = subst (Delays s x) (sym e) (varies_by s x f h)

least_outside : (s : Scope) (x : Expr) (v : LeafValue) → Constant s (out-Expr x) v → (t : Rule) (q : Place) → Unmet (delay s x ∷ []) t q → NoLater (refusal rule.T3 (place_of (out-Expr x))) (refusal t q)
least_outside s x v u t q (here _ _ (delay_varies w)) = absurd (no_inconstant w u)
least_outside s x v u t q (here _ _ (delay_outside w m)) = same rule.T3 (place_of (out-Expr x))
least_outside s x v u t q (there _ _ w) = absurd (nothing_there w)

pub outside_told : (s : Scope) (x : Expr) (v : LeafValue) (at : Place) (f : Failure) → Constant s (out-Expr x) v → (IsDelay v → ⊥) → f ≡ fault.Refused (refusal rule.T3 at) → at ≡ place_of (out-Expr x) → Delays s x (Err f)
outside_told s x v at f u m e p =
    subst (λ f. Delays s x (Err f)) (sym (e ∙ ap (λ at. fault.Refused (refusal rule.T3 at)) p)) (record { is = here _ _ (delay_outside u m); least = λ f p t q w. least_outside s x v u t q w })

-- ---- over what a `foreach` counts
least_broken : (r : Rule) (at : Place) (t : Rule) (q : Place) → Unmet (broken r at ∷ []) t q → NoLater (refusal r at) (refusal t q)
least_broken r at t q (here _ _ (is_broken _ _)) = same r at
least_broken r at t q (there _ _ w) = absurd (nothing_there w)

pub refuse_broken : (o : Result Bounds Rule) (r : Rule) (at : Place) → o ≡ Err r → RefusesAsks (refused_by o at) (refusal r at)
refuse_broken o r at e =
    subst (λ o. RefusesAsks (refused_by o at) (refusal r at)) (sym e) (record { is = here _ _ (is_broken r at); least = λ f p t q w. least_broken r at t q w })

unnamed_bounds_by : (s : Scope) (at : Place) (name : List ℕ) (u : Unfit) → Gives (thing_of (meaning_of s (alone at name))) (Err u) → BoundsAt s at name (Err (fault_at u at))
unnamed_bounds_by s at name (Breaks r) g = refuse_broken (bounds_at s at name) r at (ap bounds_of g)
unnamed_bounds_by s at name (OutOfMemory e) g = tt

pub unnamed_bounds : (s : Scope) (at : Place) (name own : List ℕ) (u : Unfit) (f : Failure) → own ≡ name → Gives (thing_of (meaning_of s (alone at own))) (Err u) → f ≡ fault_at u at → BoundsAt s at name (Err f)
unnamed_bounds s at name own u f e g h =
    subst (λ f. BoundsAt s at name (Err f)) (sym h) (unnamed_bounds_by s at name u (subst (λ n. Gives (thing_of (meaning_of s (alone at n))) (Err u)) e g))

pub bounds_are : (s : Scope) (at : Place) (name own : List ℕ) (h : Thing) (o : Result Bounds Rule) → own ≡ name → thing_of (meaning_of s (alone at own)) ≡ Ok h → o ≡ bounds_of (Ok h) → bounds_at s at name ≡ o
bounds_are s at name own h o e g i = ap bounds_of (subst (λ n. thing_of (meaning_of s (alone at n)) ≡ Ok h) e g) ∙ sym i

pub no_bounds_told : (s : Scope) (at : Place) (name : List ℕ) (r : Rule) (f : Failure) → bounds_at s at name ≡ Err r → f ≡ fault.Refused (refusal r at) → BoundsAt s at name (Err f)
no_bounds_told s at name r f e g = subst (λ f. BoundsAt s at name (Err f)) (sym g) (refuse_broken (bounds_at s at name) r at e)
