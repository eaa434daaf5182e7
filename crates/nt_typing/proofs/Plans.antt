-- What goes to a function's arguments, and to the members or elements of a pattern, has their leaves.
use Rattle.std.proofs.Common.{◌≡◌, ◌≤◌, ℕ, zero, suc, List, [], ◌∷◌, ◌++◌, map, length, replicate, refl, ap, sym, subst, ◌∙◌, arith}
use Rattle.std.specs.Prelude.{Bool, true, false, not, ◌&&◌, ◌||◌, Option, Some, None, Ok, Err, ◌==◌, if◌then◌else◌, All}
use Rattle.std.specs.List.{flat_map}
use Rattle.std.proofs.lemmas.Bool.{and_parts, eqb-true, le-leb}
use Rattle.std.proofs.lemmas.List.{length-append}
use Rattle.std.proofs.lemmas.List.Folds.{flat_map-map}
use Rattle.std.proofs.lemmas.List.Elements.{All-take, All-drop, All-head, All-tail}
use Rattle.std.proofs.Math.Seq.{take-append_seam, drop-append_seam}
use Rattle.nt_value.specs.Digits.{IsLeaf}
use Rattle.nt_value.specs.declared.leaf.Leaf.{Leaf}
use Rattle.nt_diag.specs.declared.rule.Rule.TheVariants as rule
use Rattle.nt_ast.specs.declared.expr.Key.{Key}
use Rattle.nt_ast.specs.declared.expr.Expr.{Expr}
use Rattle.nt_design.specs.Shapes.{Shaped, Scope as Design, tree_shape, are_shapes, call_shape, all_leaves, gather_shape, is_same_shape}
use Rattle.nt_design.specs.declared.tree.Tree.{Tree}
use Rattle.nt_design.specs.declared.tree.Tree.TheVariants as t
use Rattle.nt_kinds.specs.declared.kind.Kind.{Kind}
use Rattle.nt_kinds.specs.declared.kind.Kind.TheOpen.{Kind-F}
use Rattle.nt_kinds.specs.declared.kind.Kind.TheViews.{out-Kind}
use Rattle.nt_typing.specs.declared.scope.Callable.{Callable}
use Rattle.nt_typing.specs.declared.scope.Entity.{Entity}
use Rattle.nt_typing.specs.declared.scope.Entity.TheVariants as e
use Rattle.nt_kinds.specs.Kinds.{span, leaves}
use Rattle.nt_typing.specs.Tables.{called, answer_of, slots_of, all_unkeyed, items_for, other_items, one_item, with_plan, in_order, by_name, plan_for, planned, given}
use Rattle.nt_typing.specs.declared.thing.Thing.{Thing}
use Rattle.nt_typing.specs.Covers.{IsKind, IsCallable, Results}
use Rattle.nt_typing.proofs.Opened as opened
use Rattle.nt_typing.proofs.Leaves.{struct_leaves, array_leaves, shape_same}
use Rattle.nt_typing.proofs.Pieces.{ok_back, clash, on_shape_to, so_to, and_both, ThingHas}

some_back : {A : Type 0} {a b : A} → Some a ≡ Some b → a ≡ b
some_back e = cc

some_clash : {A : Type 0} {a : A} → None ≡ Some a → ⊥
some_clash e = cc

-- each type of a plan is one
pub data Kinds : List (Expr × Kind) → Type 0 where
  no_kinds : Kinds []
  more_kinds : (x : Expr) (k : Kind) (rest : List (Expr × Kind)) → IsKind k → Kinds rest → Kinds ((x, k) ∷ rest)

pub given_kinds : (xs : List Expr) (ks : List Kind) → All IsKind ks → Kinds (given xs ks)
given_kinds [] ks h = no_kinds
given_kinds (x ∷ xs) [] h = no_kinds
given_kinds (x ∷ xs) (k ∷ ks) h = more_kinds x k (given xs ks) (All-head IsKind k ks h) (given_kinds xs ks (All-tail IsKind k ks h))

abbrev pub plan_shapes : List (Expr × Kind) → List Shaped
plan_shapes plan = map (λ p. Some (leaves p.1)) plan

given_shapes : (xs : List Expr) (ks : List Kind) → length xs ≡ length ks → are_shapes (plan_shapes (given xs ks)) (map leaves ks) ≡ true
given_shapes [] [] h = refl
given_shapes [] (k ∷ ks) h = absurd (omega (arith, h))
given_shapes (x ∷ xs) [] h = absurd (omega (arith, h))
given_shapes (x ∷ xs) (k ∷ ks) h = and_both (is_same_shape (leaves k) (leaves k)) (are_shapes (plan_shapes (given xs ks)) (map leaves ks)) (shape_same (leaves k)) (given_shapes xs ks (omega (arith, h)))

-- ---- calls
pub record CalledAs (o : Option Entity) (n : ℕ) (f : Callable) : Type 0 where
  pub is : o ≡ Some (e.Function f)
  pub many : f.many ≡ false
  pub automatic : f.item.automatic ≡ true
  pub own : f.own ≡ true
  pub count : n ≡ length f.args

callable_by : (b c : Bool) (f g : Callable) (n : ℕ) → b ≡ (f.many || not (n == length f.args)) → c ≡ (f.item.automatic && f.own) → (if b then Err rule.T8 else if c then Ok f else Err rule.T16) ≡ Ok g → CalledAs (Some (e.Function f)) n g
callable_by true c f g n w v h = absurd (clash refl h)
callable_by false false f g n w v h = absurd (clash refl h)
callable_by false true f g n w v h = let both = and_parts f.item.automatic f.own (sym v) in subst (CalledAs (Some (e.Function f)) n) (ok_back refl h) (record { is = refl; many = or_left f.many _ (sym w); automatic = both.0; own = both.1; count = eqb-true n (length f.args) (not_left _ (or_right f.many _ (sym w))) })
  where
    or_left : (a b : Bool) → (a || b) ≡ false → a ≡ false
    or_left true b h = h
    or_left false b h = refl

    or_right : (a b : Bool) → (a || b) ≡ false → b ≡ false
    or_right true b h = cc
    or_right false b h = h

    not_left : (a : Bool) → not a ≡ false → a ≡ true
    not_left true h = refl
    not_left false h = cc

pub called_as : (o : Option Entity) (n : ℕ) (f : Callable) → called o n ≡ Ok f → CalledAs o n f
called_as None n f h = absurd (clash refl h)
called_as (Some (e.Net net kind user)) n f h = absurd (clash refl h)
called_as (Some e.Interconnect) n f h = absurd (clash refl h)
called_as (Some (e.Var var kind)) n f h = absurd (clash refl h)
called_as (Some (e.Local local kind)) n f h = absurd (clash refl h)
called_as (Some (e.Array element)) n f h = absurd (clash refl h)
called_as (Some (e.Constant v)) n f h = absurd (clash refl h)
called_as (Some (e.Function g)) n f h = callable_by (g.many || not (n == length g.args)) (g.item.automatic && g.own) g f n refl refl h

module _ (d : Design) where
  answer_has : (o : Option Kind) (number : ℕ) (ts : List Tree) (s : List Leaf) (h : Thing) → Results o s → tree_shape d (t.Call number ts) ≡ Some s → answer_of o number ts ≡ Ok h → ThingHas d h
  answer_has None number ts s h r e g = absurd (clash refl g)
  answer_has (Some k) number ts s h r e g = subst (ThingHas d) (ok_back refl g) (e ∙ ap (λ s. Some s) r.0, r.1)

  pub call_has : (f : Callable) (xs : List Expr) (ts : List Tree) (h : Thing) → IsCallable d f → f.many ≡ false → f.item.automatic ≡ true → f.own ≡ true → length xs ≡ length f.args
      → map (tree_shape d) ts ≡ plan_shapes (given xs f.args) → answer_of f.result f.number ts ≡ Ok h → ThingHas d h
  call_has f xs ts h c m auto own n e g =
      let signature = c.called m auto own in
      let fits : are_shapes (map (tree_shape d) ts) signature.0.args ≡ true =
      ap (λ ss. are_shapes ss signature.0.args) e ∙ (ap (are_shapes (plan_shapes (given xs f.args))) signature.2 ∙ given_shapes xs f.args n) in
      answer_has f.result f.number ts signature.0.result h signature.3
      (opened.call_opened d f.number ts ∙ (ap (λ o. call_shape o (map (tree_shape d) ts)) signature.1 ∙ so_to fits)) g

-- ---- patterns
abbrev Slots : Type 0
Slots = List (Option (List ℕ) × Kind)

abbrev slot_leaves : Slots → List Leaf
slot_leaves slots = flat_map (λ s. leaves s.1) slots

abbrev pub plan_leaves : List (Expr × Kind) → List Leaf
plan_leaves plan = flat_map (λ p. leaves p.1) plan

-- a plan for slots: its types are theirs
pub record IsPlan (slots : Slots) (plan : List (Expr × Kind)) : Type 0 where
  pub same : plan_leaves plan ≡ slot_leaves slots
  pub kinds : All IsLeaf (slot_leaves slots) → length (slot_leaves slots) ≤ 64 → Kinds plan

empty_plan : IsPlan [] []
empty_plan = record { same = refl; kinds = λ a n. no_kinds }

more_plan : (s : Option (List ℕ) × Kind) (slots : Slots) (x : Expr) (plan : List (Expr × Kind)) → IsPlan slots plan → IsPlan (s ∷ slots) ((x, s.1) ∷ plan)
more_plan s slots x plan h = record {
  same = ap (λ r. leaves s.1 ++ r) h.same;
  kinds = λ a n.
      let c = length-append (leaves s.1) (slot_leaves slots) in
      let first : All IsLeaf (leaves s.1) = subst (All IsLeaf) (take-append_seam (leaves s.1) (slot_leaves slots)) (All-take IsLeaf (length (leaves s.1)) (leaves s.1 ++ slot_leaves slots) a) in
      let rest : All IsLeaf (slot_leaves slots) = subst (All IsLeaf) (drop-append_seam (leaves s.1) (slot_leaves slots)) (All-drop IsLeaf (length (leaves s.1)) (leaves s.1 ++ slot_leaves slots) a) in
      more_kinds x s.1 plan (record { within = omega (arith, c, n); valid = first }) (h.kinds rest (omega (arith, c, n)));
}

with_planned : (s : Option (List ℕ) × Kind) (slots : Slots) (o : Option Expr) (p : Option (List (Expr × Kind))) (plan : List (Expr × Kind))
    → ((q : List (Expr × Kind)) → p ≡ Some q → IsPlan slots q) → with_plan s.1 o p ≡ Some plan → IsPlan (s ∷ slots) plan
with_planned s slots None p plan g h = absurd (some_clash h)
with_planned s slots (Some x) None plan g h = absurd (some_clash h)
with_planned s slots (Some x) (Some q) plan g h = subst (IsPlan (s ∷ slots)) (some_back h) (more_plan s slots x q (g q refl))

in_order_plan : (slots : Slots) (items : List (Option Key × Expr)) (plan : List (Expr × Kind)) → in_order slots items ≡ Some plan → IsPlan slots plan
in_order_plan [] [] plan h = subst (IsPlan []) (some_back h) empty_plan
in_order_plan [] (i ∷ items) plan h = absurd (some_clash h)
in_order_plan (s ∷ slots) [] plan h = absurd (some_clash h)
in_order_plan (s ∷ slots) (i ∷ items) plan h = with_planned s slots (Some i.1) (in_order slots items) plan (λ q e. in_order_plan slots items q e) h

by_name_plan : (slots : Slots) (items : List (Option Key × Expr)) (plan : List (Expr × Kind)) → by_name slots items ≡ Some plan → IsPlan slots plan
by_name_plan [] items plan h = subst (IsPlan []) (some_back h) empty_plan
by_name_plan (s ∷ slots) items plan h = with_planned s slots (one_item (items_for s.0 items) (other_items items)) (by_name slots items) plan (λ q e. by_name_plan slots items q e) h

plan_by : (b c : Bool) (slots : Slots) (items : List (Option Key × Expr)) (plan : List (Expr × Kind)) → (if b then in_order slots items else if c then by_name slots items else None) ≡ Some plan → IsPlan slots plan
plan_by true c slots items plan h = in_order_plan slots items plan h
plan_by false true slots items plan h = by_name_plan slots items plan h
plan_by false false slots items plan h = absurd (some_clash h)

repeated_slots : (n : ℕ) (k : Kind) → slot_leaves (replicate n (None, k)) ≡ flat_map (λ s. s) (replicate n (leaves k))
repeated_slots zero k = refl
repeated_slots (suc n) k = ap (λ r. leaves k ++ r) (repeated_slots n k)

-- the slots of a type have its leaves
pub record Planned (k : Kind) (plan : List (Expr × Kind)) : Type 0 where
  pub same : plan_leaves plan ≡ leaves k
  pub kinds : IsKind k → Kinds plan

slots_planned : (k : Kind) (slots : Slots) (plan : List (Expr × Kind)) → slot_leaves slots ≡ leaves k → IsPlan slots plan → Planned k plan
slots_planned k slots plan e h = record {
  same = h.same ∙ e;
  kinds = λ w. h.kinds (subst (All IsLeaf) (sym e) w.valid) (subst (λ ls. length ls ≤ 64) (sym e) w.within);
}

planned_at : (y : Kind-F Kind) (k : Kind) (items : List (Option Key × Expr)) (plan : List (Expr × Kind)) → out-Kind k ≡ y → plan_for (slots_of y) items ≡ Some plan → Planned k plan
planned_at (Kind-F.One leaf l r) k items plan f h = absurd (some_clash h)
planned_at (Kind-F.Struct at ms) k items plan f h =
    slots_planned k (map (λ m. (Some m.0, m.1)) ms) plan
    (flat_map-map (λ (s : Option (List ℕ) × Kind). leaves s.1) (λ (m : List ℕ × Kind). (Some m.0, m.1)) ms ∙ sym (struct_leaves k at ms f))
    (plan_by (all_unkeyed items) _ _ items plan h)
planned_at (Kind-F.Array l r element) k items plan f h =
    slots_planned k (replicate (span l r) (None, element)) plan
    (repeated_slots (span l r) element ∙ sym (array_leaves k l r element f))
    (plan_by (all_unkeyed items) _ _ items plan h)

pub planned_has : (k : Kind) (items : List (Option Key × Expr)) (plan : List (Expr × Kind)) → planned k items ≡ Some plan → Planned k plan
planned_has k items plan h = planned_at (out-Kind k) k items plan refl h

all_plan_leaves : (plan : List (Expr × Kind)) → all_leaves (plan_shapes plan) ≡ Some (plan_leaves plan)
all_plan_leaves [] = refl
all_plan_leaves (p ∷ plan) = on_shape_to _ (all_plan_leaves plan)

pub gather_has : (d : Design) (k : Kind) (plan : List (Expr × Kind)) (ts : List Tree) → IsKind k → Planned k plan → map (tree_shape d) ts ≡ plan_shapes plan → tree_shape d (t.Gather ts) ≡ Some (leaves k)
gather_has d k plan ts w p e =
    let within : length (plan_leaves plan) ≤ 64 = subst (λ ls. length ls ≤ 64) (sym p.same) w.within in
    opened.gather_opened d ts ∙ (ap gather_shape e ∙ (on_shape_to _ (all_plan_leaves plan) ∙ (so_to (le-leb (length (plan_leaves plan)) 64 within) ∙ ap (λ ls. Some ls) p.same)))
