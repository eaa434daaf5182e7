-- The least fault of parts: of a left side, of what goes to it, of several together.
use Rattle.std.proofs.Common.{◌≡◌, ◌⊎◌, ℕ, Bool, true, false, [], ◌∷◌, Some, refl, ap, subst, inl, inr}
use Rattle.std.specs.Prelude.{if◌then◌else◌}
use Rattle.nt_value.specs.declared.place.Place.{Place}
use Rattle.nt_diag.specs.declared.refusal.Refusal.{Refusal}
use Rattle.nt_diag.specs.declared.rule.Rule.{Rule}
use Rattle.nt_diag.specs.declared.rule.Rule.TheVariants as rule
use Rattle.nt_diag.specs.Order.{NoLater, IsLeastOf, earlier, is_no_later}
use Rattle.nt_diag.proofs.Least.{Best, best_join}
use Rattle.nt_ast.specs.Places.{Node, place_of, Placed}
use Rattle.nt_ast.specs.declared.expr.Expr.{Expr}
use Rattle.nt_ast.specs.declared.expr.Expr.TheViews.{out-Expr}
use Rattle.nt_const.specs.Tells.{refusal}
use Rattle.nt_design.specs.declared.target.Target.{Target}
use Rattle.nt_design.specs.declared.tree.Tree.{Tree}
use Rattle.nt_design.specs.declared.tree.Tree.TheOpen.{Tree-F}
use Rattle.nt_design.specs.declared.tree.Tree.TheViews.{out-Tree}
use Rattle.nt_kinds.specs.declared.kind.Kind.{Kind}
use Rattle.nt_typing.specs.Faults.{base, FaultTo}
use Rattle.nt_typing.specs.Places.{RefusesOperand, RefusesTo}
use Rattle.nt_typing.specs.Typing.{Stands}
use Rattle.nt_typing.specs.declared.scope.Scope.{Scope}
use Rattle.nt_typing.specs.declared.thing.Thing.TheVariants.{Value as value, Many as many}
use Rattle.nt_typing.proofs.One.{stands_one, tree_of}
use Rattle.nt_typing.proofs.Excluded.{fit_base, no_misses}
use Rattle.nt_typing.proofs.Least.{same}
use Rattle.nt_typed_stmts.specs.Lefts as l
use Rattle.nt_typed_stmts.specs.Lefts.{Reaches, Misled, Left, left, LeftFault, faulty, array, misled}
use Rattle.nt_typed_stmts.specs.Faults.{assigned, Unmet, here, there, left_faulty, right_faulty}
use Rattle.nt_typed_stmts.specs.Places.{AsksPlaced, assigned_in, more_asks, RefusesAsks}
use Rattle.nt_typed_stmts.proofs.Excluded.{no_left_fault}
use Rattle.nt_typed_stmts.proofs.One.{left_one}
use Rattle.nt_stmt_parts.specs.Parts.{RefusesLeft}
use Rattle.nt_stmt_parts.specs.Together.{one_of}

-- ---- the earlier one of two
one_by : (b : Bool) (r s : Refusal) → (if b then Some r else Some s) ≡ Some (if b then r else s)
one_by true r s = refl
one_by false r s = refl

pub one_is : (r s : Refusal) → earlier (Some r) (Some s) ≡ Some (one_of r s)
one_is r s = one_by (is_no_later r s) r s

abbrev Later : Refusal → Refusal → Type 0
Later r u = NoLater r u

later_least : (r : Refusal) → Best (Later r) (Some r)
later_least r = record { best = record { is = same r.rule r.place; least = λ u h. h } }

both_later : (r s : Refusal) → IsLeastOf (λ u. Later r u ⊎ Later s u) (Some (one_of r s))
both_later r s = subst (IsLeastOf (λ u. Later r u ⊎ Later s u)) (one_is r s) (best_join (later_least r) (later_least s)).best

pub one_left : (r s u : Refusal) → NoLater r u → NoLater (one_of r s) u
one_left r s u h = (both_later r s).least u (inl h)

pub one_right : (r s u : Refusal) → NoLater s u → NoLater (one_of r s) u
one_right r s u h = (both_later r s).least u (inr h)

either_by : (P : Refusal → Type 0) (b : Bool) (r s : Refusal) → P r → P s → P (if b then r else s)
either_by P true r s h g = h
either_by P false r s h g = g

pub one_has : (P : Refusal → Type 0) (r s : Refusal) → P r → P s → P (one_of r s)
one_has P r s h g = either_by P (is_no_later r s) r s h g

-- ---- left sides
value_many : {k j : Kind} {a : Tree} → value k a ≡ many j → ⊥
value_many e = cc

misled_one : {s : Scope} {x : Node} {k j : Kind} {a b : Tree} {r : Rule} → Stands s x (value k a) → Stands s x (value j b) → Misled (out-Tree b) r → Misled (out-Tree a) r
misled_one {r = r} h g m = subst (λ t. Misled (out-Tree t) r) (ap tree_of (stands_one g h)) m

pub one_rule : {n : Tree-F Tree} {r t : Rule} → Misled n r → Misled n t → r ≡ t
one_rule (l.net n) (l.net _) = refl
one_rule (l.leaves_of a first count m) (l.leaves_of _ _ _ n) = one_rule m n
one_rule (l.item_of a i low size up m) (l.item_of _ _ _ _ _ n) = one_rule m n
one_rule (l.part_of a low width m) (l.part_of _ _ _ n) = one_rule m n
one_rule (l.constant v) (l.constant _) = refl
one_rule (l.element i) (l.element _) = refl
one_rule (l.unary op a) (l.unary _ _) = refl
one_rule (l.binary op a b) (l.binary _ _ _) = refl
one_rule (l.choice test a b) (l.choice _ _ _) = refl
one_rule (l.concat parts) (l.concat _) = refl
one_rule (l.gather parts) (l.gather _) = refl
one_rule (l.resize a to) (l.resize _ _) = refl
one_rule (l.call f args) (l.call _ _) = refl
one_rule l.size l.size = refl
one_rule l.time l.time = refl

module _ {s : Scope} where
  least_misled : (x : Node) (k : Kind) (a : Tree) (r : Rule) → Stands s x (value k a) → Misled (out-Tree a) r → (t : Rule) (q : Place) → LeftFault s x t q → NoLater (refusal r (place_of x)) (refusal t q)
  least_misled x k a r h m t q (faulty w) = absurd (no_misses w (fit_base h))
  least_misled x k a r h m t q (array g) = absurd (value_many (stands_one h g))
  least_misled x k a r h m t q (misled g n) = subst (λ t. NoLater (refusal r (place_of x)) (refusal t (place_of x))) (one_rule m (misled_one h g n)) (same r (place_of x))

  pub refuse_misled : (x : Node) (k : Kind) (a : Tree) (r : Rule) → Stands s x (value k a) → Misled (out-Tree a) r → RefusesLeft s x (refusal r (place_of x))
  refuse_misled x k a r h m = record { is = misled h m; least = λ f i j p t q w. least_misled x k a r h m t q w }

  least_array : (x : Node) (k : Kind) → Stands s x (many k) → (t : Rule) (q : Place) → LeftFault s x t q → NoLater (refusal rule.T8 (place_of x)) (refusal t q)
  least_array x k h t q (faulty w) = absurd (no_misses w (fit_base h))
  least_array x k h t q (array g) = same rule.T8 (place_of x)
  least_array x k h t q (misled g n) = absurd (value_many (stands_one g h))

  pub refuse_array : (x : Node) (k : Kind) → Stands s x (many k) → RefusesLeft s x (refusal rule.T8 (place_of x))
  refuse_array x k h = record { is = array h; least = λ f i j p t q w. least_array x k h t q w }

  least_base : (x : Node) (r : Refusal) → RefusesOperand s base x r → (f i j : ℕ) → Placed f i j x → (t : Rule) (q : Place) → LeftFault s x t q → NoLater r (refusal t q)
  least_base x r h f i j p t q (faulty w) = h.least f i j p t q w
  least_base x r h f i j p t q (array g) = absurd (no_misses h.is (fit_base g))
  least_base x r h f i j p t q (misled g n) = absurd (no_misses h.is (fit_base g))

  pub refuse_left_base : (x : Node) (r : Refusal) → RefusesOperand s base x r → RefusesLeft s x r
  refuse_left_base x r h = record { is = faulty h.is; least = least_base x r h }

  -- ---- what goes to a left side
  least_assigned_left : (x : Node) (y : Expr) (r : Refusal) → RefusesLeft s x r → (f : ℕ) → AsksPlaced f (assigned s x y ∷ []) → (t : Rule) (q : Place) → Unmet (assigned s x y ∷ []) t q → NoLater r (refusal t q)
  least_assigned_left x y r h f (more_asks _ _ (assigned_in _ _ _ p u) z) t q (here _ _ (left_faulty _ w)) = h.least _ _ _ p t q w
  least_assigned_left x y r h f p t q (here _ _ (right_faulty _ g w)) = absurd (no_left_fault h.is g)
  least_assigned_left x y r h f p t q (there _ _ w) = elim w [ ]

  pub refuse_assigned_left : (x : Node) (y : Expr) (r : Refusal) → RefusesLeft s x r → RefusesAsks (assigned s x y ∷ []) r
  refuse_assigned_left x y r h = record { is = here _ _ (left_faulty y h.is); least = least_assigned_left x y r h }

  least_assigned_right : (x : Node) (y : Expr) (k : Kind) (to : Target) (r : Refusal) → Left s x k to → RefusesTo s (out-Expr y) k r
      → (f : ℕ) → AsksPlaced f (assigned s x y ∷ []) → (t : Rule) (q : Place) → Unmet (assigned s x y ∷ []) t q → NoLater r (refusal t q)
  least_assigned_right x y k to r g h f p t q (here _ _ (left_faulty _ w)) = absurd (no_left_fault w g)
  least_assigned_right x y k to r g h f (more_asks _ _ (assigned_in _ _ _ u p) z) t q (here _ _ (right_faulty _ m w)) =
      h.least _ _ _ p t q (subst (λ k. FaultTo s (out-Expr y) k t q) (left_one m g).kind w)
  least_assigned_right x y k to r g h f p t q (there _ _ w) = elim w [ ]

  pub refuse_assigned_right : (x : Node) (y : Expr) (k : Kind) (to : Target) (r : Refusal) → Left s x k to → RefusesTo s (out-Expr y) k r → RefusesAsks (assigned s x y ∷ []) r
  refuse_assigned_right x y k to r g h = record { is = here _ _ (right_faulty y g h.is); least = least_assigned_right x y k to r g h }
