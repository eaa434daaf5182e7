-- Each part of a typed statement has the shape that its place asks for.
use Rattle.std.proofs.Common.{◌≡◌, ℕ, ◌+◌, ◌<◌, ◌++◌, Bool, true, false, List, [], ◌∷◌, map, length, slice_get, Option, Some, None, Result, Ok, Err, refl, ap, sym, subst, ◌∙◌, arith, nat_eq}
use Rattle.std.specs.Prelude.{suc, if◌then◌else◌, is_some, nat_le, not, ◌==◌}
use Rattle.std.specs.List.{list_all}
use Rattle.std.specs.Cmp.Lexicographic.{pointwise}
use denote.Hole.Carrier.{roll}
use Rattle.nt_value.specs.Digits.{LeafValue, IsFilled, IsLeaf}
use Rattle.nt_value.specs.declared.kind.Edge.{Edge}
use Rattle.nt_value.specs.declared.leaf.Leaf.{Leaf}
use Rattle.nt_value.specs.declared.operator.Binary.TheVariants as o
use Rattle.nt_value.specs.declared.place.Place.{Place}
use Rattle.nt_diag.specs.declared.rule.Rule.{Rule}
use Rattle.nt_ast.specs.Names.{path_name}
use Rattle.nt_ast.specs.Places.{Node}
use Rattle.nt_ast.specs.declared.path.Path.{Path}
use Rattle.nt_ast.specs.declared.expr.Expr.{Expr}
use Rattle.nt_ast.specs.declared.stmt.Stmt.{Stmt}
use Rattle.nt_ast.specs.declared.stmt.Stmt.TheFolds.{fold_out-Stmt, map-Stmt}
use Rattle.nt_ast.specs.declared.stmt.Stmt.TheOpen.{Stmt-F}
use Rattle.nt_ast.specs.declared.stmt.Stmt.TheViews.{out-Stmt}
use Rattle.nt_design.specs.Parts.{Value, int_leaf}
use Rattle.nt_design.specs.Reads.{calls_of, event_trees}
use Rattle.nt_design.specs.Rules.{act_fits, arm_fits, bounds_fit, constant_of, constant_step, events_fit, is_delay, is_delay_value, is_event, is_local, is_slot, return_fits}
use Rattle.nt_design.specs.Shapes.{Shaped, Scope as Design, call_shape, are_shapes, is_both, is_leaf, is_same_shape, is_shape, on_leaf, on_shape, part_shape, path_shape, pick_shape, shape_step, signature_at, target_shape, tree_shape}
use Rattle.nt_design.specs.declared.act.Act.{Act}
use Rattle.nt_design.specs.declared.target.Pick.{Pick}
use Rattle.nt_design.specs.declared.target.Pick.TheVariants as pick
use Rattle.nt_design.specs.declared.target.Target.{Target}
use Rattle.nt_design.specs.declared.target.Target.TheVariants as target
use Rattle.nt_design.specs.declared.tree.Tree.{Tree}
use Rattle.nt_design.specs.declared.tree.Tree.TheFolds.{fold-roll-Tree, fold_out-Tree, map-Tree}
use Rattle.nt_design.specs.declared.tree.Tree.TheOpen.{Tree-F}
use Rattle.nt_design.specs.declared.tree.Tree.TheVariants as t
use Rattle.nt_design.specs.declared.tree.Tree.TheViews.{out-Tree, roll-Tree}
use Rattle.nt_kinds.specs.Kinds.{leaves}
use Rattle.nt_kinds.specs.declared.kind.Kind.{Kind}
use Rattle.nt_kinds.specs.declared.kind.Kind.TheOpen.{Kind-F}
use Rattle.nt_kinds.specs.declared.kind.Kind.TheViews.{out-Kind}
use Rattle.nt_typing.specs.Covers.{Covers, Has, IsKind}
use Rattle.nt_typing.specs.Names.{last_of, or_last, meaning_of}
use Rattle.nt_typing.specs.Tables.{called, constant_tree, given, thing_of}
use Rattle.nt_typing.specs.Typing.{Goes, AllGo}
use Rattle.nt_typing.specs.declared.scope.Callable.{Callable}
use Rattle.nt_typing.specs.declared.scope.Entity.TheVariants as e
use Rattle.nt_typing.specs.declared.scope.Scope.{Scope}
use Rattle.nt_typing.specs.declared.thing.Thing.{Thing}
use Rattle.nt_typing.specs.declared.thing.Thing.TheVariants.{Value as value, Many as many}
use Rattle.nt_typing.proofs.Leaves.{shape_same}
use Rattle.nt_typing.proofs.Pieces.{ThingHas, and_both, constant_has, name_has, plain_kind, plain_leaves, so_to}
use Rattle.nt_typing.proofs.Plans.{called_as, given_kinds, plan_shapes}
use Rattle.nt_typing.proofs.Shaping.{binary_is}
use Rattle.nt_typing.proofs.Shapely.{all_has, alone_has, goes_has, itself_has, stands_has, typed_has}
use Rattle.nt_typed_stmts.specs.Lefts.{into, Reaches, variable, own, leaves_in, item_in, part_in, Left, left}
use Rattle.nt_typed_stmts.specs.Around.{Around, counted, total, loops_step, loops_of, arm_loops, past, in_loop, int_kind, with_local, declared}
use Rattle.nt_typed_stmts.specs.Tables.{Bounds, bounds_in, bounds_of, alone, IsDelay, events_of}
use Rattle.nt_typed_stmts.specs.Binds as b
use Rattle.nt_typed_stmts.specs.Binds.{is_own_from, Together, together_none, together_more, AllTyped, none_typed, more_typed, AllItself, none_itself, more_itself, Events, no_events, more_events, Begins, begins_own, begins_other, Returned, nothing_returned, value_returned, BindsStatement, BindsAll, BindsArms, BindsOther}
use Rattle.nt_typed_stmts.specs.Fits.{Serves, result_in, ResultSound}
use Rattle.nt_typed_stmts.proofs.Behaving.{reaches_no_slot}
use Rattle.nt_typed_stmts.proofs.Folded as of

-- ---- loop variables of a node
abbrev pub node_loops : Stmt-F Stmt → ℕ
node_loops (Stmt-F.Null at) = 0
node_loops (Stmt-F.Block at xs) = total (map loops_of xs)
node_loops (Stmt-F.Assign at x y) = 0
node_loops (Stmt-F.Nonblocking at x y) = 0
node_loops (Stmt-F.If at x y None) = loops_of y + 0
node_loops (Stmt-F.If at x y (Some z)) = loops_of y + loops_of z
node_loops (Stmt-F.Case at x arms None) = arm_loops arms + 0
node_loops (Stmt-F.Case at x arms (Some z)) = arm_loops arms + loops_of z
node_loops (Stmt-F.While at x y) = loops_of y
node_loops (Stmt-F.Repeat at x y) = loops_of y
node_loops (Stmt-F.For at fresh p name x y z v) = counted fresh (loops_of z + loops_of v)
node_loops (Stmt-F.Forever at y) = loops_of y
node_loops (Stmt-F.Foreach at p array q index y) = suc (loops_of y)
node_loops (Stmt-F.Delay at x y) = loops_of y
node_loops (Stmt-F.Event at any xs y) = loops_of y
node_loops (Stmt-F.Wait at x y) = loops_of y
node_loops (Stmt-F.Return at x) = 0
node_loops (Stmt-F.Break at) = 0
node_loops (Stmt-F.Continue at) = 0
node_loops (Stmt-F.Call at path xs) = 0
node_loops (Stmt-F.Display at text xs) = 0
node_loops (Stmt-F.Finish at) = 0

arms_total : (arms : List (List Expr × Stmt)) → total (map (λ (arm : List Expr × ℕ). arm.1) (map (λ (arm : List Expr × Stmt). (arm.0, loops_of arm.1)) arms)) ≡ arm_loops arms
arms_total [] = refl
arms_total (arm ∷ arms) = ap (λ n. loops_of arm.1 + n) (arms_total arms)

node_step : (n : Stmt-F Stmt) → loops_step (map-Stmt Stmt ℕ loops_of n) ≡ node_loops n
node_step (Stmt-F.Null at) = refl
node_step (Stmt-F.Block at xs) = refl
node_step (Stmt-F.Assign at x y) = refl
node_step (Stmt-F.Nonblocking at x y) = refl
node_step (Stmt-F.If at x y None) = refl
node_step (Stmt-F.If at x y (Some z)) = refl
node_step (Stmt-F.Case at x arms None) = ap (λ n. n + 0) (arms_total arms)
node_step (Stmt-F.Case at x arms (Some z)) = ap (λ n. n + loops_of z) (arms_total arms)
node_step (Stmt-F.While at x y) = refl
node_step (Stmt-F.Repeat at x y) = refl
node_step (Stmt-F.For at fresh p name x y z v) = refl
node_step (Stmt-F.Forever at y) = refl
node_step (Stmt-F.Foreach at p array q index y) = refl
node_step (Stmt-F.Delay at x y) = refl
node_step (Stmt-F.Event at any xs y) = refl
node_step (Stmt-F.Wait at x y) = refl
node_step (Stmt-F.Return at x) = refl
node_step (Stmt-F.Break at) = refl
node_step (Stmt-F.Continue at) = refl
node_step (Stmt-F.Call at path xs) = refl
node_step (Stmt-F.Display at text xs) = refl
node_step (Stmt-F.Finish at) = refl

folded : (x : Stmt) → loops_of x ≡ loops_step (map-Stmt Stmt ℕ loops_of (out-Stmt x))
unfolding loops_of
folded x = fold_out-Stmt ℕ loops_step x

pub loops_opened : (x : Stmt) → loops_of x ≡ node_loops (out-Stmt x)
loops_opened x = folded x ∙ node_step (out-Stmt x)

-- ---- scopes
last_after_by : {A : Type 0} (c : Bool) (a b : Option A) (x : A) → or_last (or_last (if c then Some x else None) a) b ≡ or_last (if c then Some x else None) (or_last a b)
last_after_by true a b x = refl
last_after_by false a b x = refl

last_alone_by : {A : Type 0} (c : Bool) (x : A) → (if c then Some x else None) ≡ or_last (if c then Some x else None) None
last_alone_by true x = refl
last_alone_by false x = refl

pub last_after : {A : Type 0} (ns : List (List ℕ × A)) (m : List ℕ) (x : A) (name : List ℕ)
    → last_of (ns ++ (m, x) ∷ []) name ≡ or_last (if pointwise nat_eq m name then Some x else None) (last_of ns name)
last_after [] m x name = last_alone_by (pointwise nat_eq m name) x
last_after (n ∷ ns) m x name =
    let c = if pointwise nat_eq n.0 name then Some n.1 else None in
    ap (λ o. or_last o c) (last_after ns m x name) ∙ last_after_by (pointwise nat_eq m name) (last_of ns name) c x

has_by : {A : Type 0} {P : A → Type 0} (c : Bool) (x y : A) (o : Option A) → P x → ((z : A) → o ≡ Some z → P z) → or_last (if c then Some x else None) o ≡ Some y → P y
has_by {P = P} true x y o h go f = let same : x ≡ y = cc in subst P same h
has_by false x y o h go f = go y f

true_false : {b : Bool} → b ≡ true → b ≡ false → ⊥
true_false e f = cc

no_bounds : {b : Bool} (n : Kind-F Kind) → bounds_in n ≡ Ok None → b ≡ true
no_bounds (Kind-F.One leaf l r) e = cc
no_bounds (Kind-F.Struct at members) e = cc
no_bounds (Kind-F.Array l r element) e = cc

given_shapes : (xs : List Expr) (ks : List Kind) → length xs ≡ length ks → are_shapes (plan_shapes (given xs ks)) (map leaves ks) ≡ true
given_shapes [] [] h = refl
given_shapes [] (k ∷ ks) h = absurd (omega (arith, h))
given_shapes (x ∷ xs) [] h = absurd (omega (arith, h))
given_shapes (x ∷ xs) (k ∷ ks) h = and_both (is_same_shape (leaves k) (leaves k)) (are_shapes (plan_shapes (given xs ks)) (map leaves ks)) (shape_same (leaves k)) (given_shapes xs ks (omega (arith, h)))

module _ (d : Design) where
  int_has : (i : ℕ) → slice_get d.locals i ≡ Some (int_leaf ∷ []) → Has d (e.Local i int_kind)
  int_has i h = record { shape = h ∙ ap (λ ls. Some ls) (sym (plain_leaves int_leaf)); sound = plain_kind int_leaf (grind arith, grind arith) }

  covers_more : {s : Scope} (name : List ℕ) (i : ℕ) → slice_get d.locals i ≡ Some (int_leaf ∷ []) → Covers s d → Covers (with_local s name i) d
  covers_more {s = s} name i h c = record {
    has = λ other x f. has_by {P = Has d} (pointwise nat_eq name other) (e.Local i int_kind) x (last_of s.names other) (int_has i h) (c.has other)
        (sym (last_after s.names name (e.Local i int_kind) other) ∙ f);
  }

  at_next : {w : Around} (n : ℕ) → Serves w (suc n) d → slice_get d.locals w.next ≡ Some (int_leaf ∷ [])
  at_next {w = w} n h = let lt : 0 < suc n = omega arith in let same : w.next + 0 ≡ w.next = omega arith in subst (λ i. slice_get d.locals i ≡ Some (int_leaf ∷ [])) same (h.loops 0 lt)

  serves_front : {w : Around} (n m : ℕ) → Serves w (n + m) d → Serves w n d
  serves_front n m h = record { covers = h.covers; result = h.result; loops = λ k lt. h.loops k (omega (arith, lt)); first = h.first }

  serves_past : {w : Around} (n m : ℕ) → Serves w (n + m) d → Serves (past n w) m d
  serves_past {w = w} n m h = record {
    covers = h.covers;
    result = h.result;
    first = h.first;
    loops = λ k lt. let same : w.next + (n + k) ≡ w.next + n + k = omega arith in subst (λ i. slice_get d.locals i ≡ Some (int_leaf ∷ [])) same (h.loops (n + k) (omega (arith, lt)));
  }

  serves_loop : {w : Around} (n : ℕ) → Serves w n d → Serves (in_loop w) n d
  serves_loop n h = record { covers = h.covers; result = h.result; loops = h.loops; first = h.first }

  serves_declared : {w : Around} (name : List ℕ) (n : ℕ) → Serves w (suc n) d → Serves (declared w name) n d
  serves_declared {w = w} name n h = record {
    covers = covers_more name w.next (at_next n h) h.covers;
    result = h.result;
    first = h.first;
    loops = λ k lt. let same : w.next + suc k ≡ suc w.next + k = omega arith in subst (λ i. slice_get d.locals i ≡ Some (int_leaf ∷ [])) same (h.loops (suc k) (omega (arith, lt)));
  }

  pub serves_inner : {w : Around} (x : Stmt) → Serves w (loops_of x) d → Serves w (node_loops (out-Stmt x)) d
  serves_inner {w = w} x h = subst (λ n. Serves w n d) (loops_opened x) h

  -- ---- shapes as they are tested
  leaf_test : (o : Shaped) (l : Leaf) → o ≡ Some (l ∷ []) → is_leaf o ≡ true
  leaf_test o l h = ap is_leaf h

  both_test : (o q : Shaped) (s : List Leaf) → o ≡ Some s → q ≡ Some s → is_both o q ≡ true
  both_test o q s h g = ap (λ o. is_both o q) h ∙ (ap (λ q. is_both (Some s) q) g ∙ shape_same s)

  shape_test : (o : Shaped) (s : List Leaf) → o ≡ Some s → is_shape o s ≡ true
  shape_test o s h = ap (λ o. is_shape o s) h ∙ shape_same s
      -- ---- left sides

  once : (o : Shaped) → on_shape o (path_shape d []) ≡ o
  once None = refl
  once (Some s) = refl

  path_with : (o : Shaped) (f g : List Leaf → Shaped) (p : Pick) → ((s : List Leaf) → f s ≡ on_shape (g s) (pick_shape d p)) → on_shape o f ≡ on_shape (on_shape o g) (pick_shape d p)
  path_with None f g p h = refl
  path_with (Some s) f g p h = h s

  path_then : (path : List Pick) (p : Pick) (s : List Leaf) → path_shape d (path ++ p ∷ []) s ≡ on_shape (path_shape d path s) (pick_shape d p)
  path_then [] p s = once (pick_shape d p s)
  path_then (q ∷ path) p s = path_with (pick_shape d q s) (path_shape d (path ++ p ∷ [])) (path_shape d path) p (λ s. path_then path p s)

  path_by : (path : List Pick) (p : Pick) (o : Shaped) → on_shape o (path_shape d (path ++ p ∷ [])) ≡ on_shape (on_shape o (path_shape d path)) (pick_shape d p)
  path_by path p o = path_with o (path_shape d (path ++ p ∷ [])) (path_shape d path) p (path_then path p)

  into_shape : (to : Target) (p : Pick) → is_slot to ≡ false → target_shape d (into to p) ≡ on_shape (target_shape d to) (pick_shape d p)
  into_shape (target.Var v path) p e = path_by path p (slice_get d.vars v)
  into_shape (target.Slot net slot low width) p e = cc
  into_shape (target.Local i path) p e = path_by path p (slice_get d.locals i)

  abbrev node_shape : Tree-F Tree → Shaped
  node_shape n = shape_step d (map-Tree Tree Shaped (tree_shape d) n)

  no_leaf : (o : Shaped) → on_leaf {B = List Leaf} o (λ i. None) ≡ None
  no_leaf None = refl
  no_leaf (Some []) = refl
  no_leaf (Some (a ∷ [])) = refl
  no_leaf (Some (a ∷ b ∷ s)) = refl

  part_same : (width : ℕ) (o q : Shaped)
      → on_shape o (λ s. on_leaf q (λ i. on_leaf (Some s) (part_shape width))) ≡ on_leaf o (λ leaf. on_leaf q (λ i. part_shape width leaf))
  part_same width None q = refl
  part_same width (Some []) q = no_leaf q
  part_same width (Some (a ∷ [])) q = refl
  part_same width (Some (a ∷ b ∷ s)) q = no_leaf q

  tree_opened : (a : Tree) → tree_shape d a ≡ node_shape (out-Tree a)
  tree_opened a = fold_out-Tree Shaped (shape_step d) a

  reaches_node : {n : Tree-F Tree} {to : Target} → Reaches n to → target_shape d to ≡ node_shape n
  reaches_node (variable v) = once (slice_get d.vars v)
  reaches_node (own i) = once (slice_get d.locals i)
  reaches_node (leaves_in {to = to} a first count g) =
      into_shape to (pick.Leaves first count) (reaches_no_slot g) ∙ ap (λ o. on_shape o (pick_shape d (pick.Leaves first count))) (reaches_node g ∙ sym (tree_opened a))
  reaches_node (item_in {to = to} a i low size up g) =
      into_shape to (pick.Item i low size up) (reaches_no_slot g) ∙ ap (λ o. on_shape o (pick_shape d (pick.Item i low size up))) (reaches_node g ∙ sym (tree_opened a))
  reaches_node (part_in {to = to} a low width g) =
      into_shape to (pick.Part low width) (reaches_no_slot g) ∙ (ap (λ o. on_shape o (pick_shape d (pick.Part low width))) (reaches_node g ∙ sym (tree_opened a))
      ∙ part_same width (tree_shape d a) (tree_shape d low))

  reaches_shape : {to : Target} (a : Tree) → Reaches (out-Tree a) to → target_shape d to ≡ tree_shape d a
  reaches_shape a g = reaches_node g ∙ sym (tree_opened a)

  record Lefted (to : Target) (k : Kind) : Type 0 where
    pub shape : target_shape d to ≡ Some (leaves k)
    pub sound : IsKind k

  left_has : {s : Scope} {x : Node} {k : Kind} {to : Target} → Covers s d → Left s x k to → Lefted to k
  left_has c (left {a = a} u g) = let h = stands_has c u in record { shape = reaches_shape a g ∙ h.0; sound = h.1 }

  assigned_fits : {s : Scope} {x y : Node} {k : Kind} {to : Target} {a : Tree} → Covers s d → Left s x k to → Goes s y k a → is_both (target_shape d to) (tree_shape d a) ≡ true
  assigned_fits c g u = let h = left_has c g in both_test _ _ _ h.shape (goes_has c u h.sound)

  begins_fits : {w : Around} {p : Place} {name : List ℕ} {x : Expr} {to : Target} {a : Tree} (fresh : Bool) (n : ℕ) → Serves w (counted fresh n) d → Begins w fresh p name x to a
      → is_both (target_shape d to) (tree_shape d a) ≡ true
  begins_fits {w = w} true n h (begins_own p name x g) =
      let at = at_next n h in
      both_test _ _ (int_leaf ∷ []) (ap (λ o. on_shape o (path_shape d [])) at)
      (goes_has h.covers g (plain_kind int_leaf (grind arith, grind arith)) ∙ ap (λ ls. Some ls) (plain_leaves int_leaf))
  begins_fits false n h (begins_other p name x g u) = assigned_fits h.covers g u

  -- ---- expressions
  together_is : {s : Scope} {xs : List Expr} {l c : Leaf} → Covers s d → IsLeaf l → Together s xs l c → IsLeaf c
  together_is c w together_none = w
  together_is c w (together_more {l = l} {m = m} x xs a g) = together_is c (binary_is o.Add l m w (alone_has c a)) g

  items_fit : {s : Scope} {xs : List Expr} {ts : List Tree} {l : Leaf} (test : Shaped) → Covers s d → IsLeaf l → test ≡ Some (l ∷ []) → AllTyped s xs l ts → list_all (λ item. is_both test (tree_shape d item)) ts ≡ true
  items_fit test c w e none_typed = refl
  items_fit test c w e (more_typed x xs u g) = and_both _ _ (both_test test _ _ e (typed_has c u w)) (items_fit test c w e g)

  selves_fit : {s : Scope} {xs : List Expr} {ts : List Tree} → Covers s d → AllItself s xs ts → list_all (λ arg. is_leaf (tree_shape d arg)) ts ≡ true
  selves_fit c none_itself = refl
  selves_fit c (more_itself x xs i g) = and_both _ _ (leaf_test _ _ (itself_has c i).shape) (selves_fit c g)

  no_calls : (ns : List ℕ) → ns ≡ [] → (length ns == 0) ≡ true
  no_calls ns e = ap (λ ns. length ns == 0) e

  each_event : {s : Scope} {xs : List (Edge × Expr)} {es : List (Edge × Tree)} → Covers s d → Events s xs es → list_all (is_event d) (event_trees es) ≡ true
  each_event c no_events = refl
  each_event c (more_events {a = a} edge x xs i n g) = and_both _ _ (and_both _ _ (leaf_test _ _ (itself_has c i).shape) (no_calls (calls_of a) n)) (each_event c g)

  events_are : {s : Scope} {es : List (Edge × Tree)} (any : Bool) (xs : List (Edge × Expr)) → Covers s d → Events s (events_of any xs) es → events_fit d any es ≡ true
  events_are true xs c no_events = refl
  events_are false xs c g = each_event c g

  constant_known : (v : Value) → constant_of (t.Const v) ≡ Some v
  unfolding roll-Tree roll
  constant_known v = fold-roll-Tree (Option Value) constant_step (Tree-F.Const v)

  delay_fits : (v : LeafValue) → IsFilled v → IsDelay v → is_delay d (constant_tree v) ≡ true
  delay_fits v f m = and_both _ _ (leaf_test _ _ (constant_has d v f)) (ap is_delay_value (constant_known (v ∷ [])) ∙ m)

  bounds_by : (h : Thing) (bounds : Bounds) → ThingHas d h → bounds_of (Ok h) ≡ Ok bounds → bounds_fit bounds d.many ≡ true
  bounds_by h (Some bounds) g e = refl
  bounds_by (many k) None g e = ap is_some g.0
  bounds_by (value k a) None g e = no_bounds (out-Kind k) e

  no_thing : (r : Rule) (bounds : Bounds) → bounds_of (Err r) ≡ Ok bounds → bounds_fit bounds d.many ≡ true
  no_thing r bounds e = cc

  bounds_are : (o : Result Thing Rule) (bounds : Bounds) → ((h : Thing) → o ≡ Ok h → ThingHas d h) → bounds_of o ≡ Ok bounds → bounds_fit bounds d.many ≡ true
  bounds_are (Ok h) bounds go e = bounds_by h bounds (go h refl) e
  bounds_are (Err r) bounds go e = no_thing r bounds e

  returned_fits : {s : Scope} {x : Option Expr} {a : Option Tree} → Covers s d → ResultSound s.inside → Returned s x a → return_fits d (result_in s.inside) a ≡ true
  returned_fits c w (nothing_returned e) = refl
  returned_fits {a = a} c w (value_returned {k = k} x e g) =
      ap (λ i. return_fits d (result_in i) a) e ∙ shape_test _ _ (goes_has c g (subst ResultSound e w))

  call_fits : {s : Scope} {f : Callable} {ts : List Tree} (path : Path) (xs : List Expr) → Covers s d → called (meaning_of s path) (length xs) ≡ Ok f → AllGo s (given xs f.args) ts
      → is_some (call_shape (signature_at d f.number) (map (tree_shape d) ts)) ≡ true
  call_fits {f = f} {ts = ts} path xs c e g =
      let k = called_as _ _ _ e in let m = c.has (path_name path) _ k.is in
      let signature = m.called k.many k.automatic k.own in
      let fits : are_shapes (map (tree_shape d) ts) signature.0.args ≡ true =
      ap (λ ss. are_shapes ss signature.0.args) (all_has c g (given_kinds xs _ m.kinds)) ∙ (ap (are_shapes (plan_shapes (given xs f.args))) signature.2 ∙ given_shapes xs f.args k.count) in
      ap (λ o. is_some (call_shape o (map (tree_shape d) ts))) signature.1 ∙ ap is_some (so_to fits)

  not_own : (first : ℕ) (to : Target) → first ≡ 0 → is_own_from first to ≡ false → not (is_local to) ≡ true
  not_own first (target.Var v path) e g = refl
  not_own first (target.Slot net slot low width) e g = refl
  not_own first (target.Local i path) e g = let lt : nat_le 0 i ≡ true = grind arith in absurd (true_false lt (subst (λ n. nat_le n i ≡ false) e g))

  -- ---- statements
  mutual
    pub statement_fits : {w : Around} {x : Stmt-F Stmt} {a : Act} → Serves w (node_loops x) d → BindsStatement w x a → act_fits d (result_in w.scope.inside) a ≡ true
    statement_fits h (b.null at) = of.of_null _ at
    statement_fits h (b.block {as' = as'} at xs g) = of.of_block _ as' at ∙ all_fit h g
    statement_fits h (b.assign {to = to} {b = c} at x y g u) = of.of_assign _ to c at ∙ assigned_fits h.covers g u
    statement_fits {w = w} h (b.nonblocking {to = to} {b = c} at x y n g m u) = of.of_nonblocking _ to c at ∙ and_both _ _ (not_own w.first to (h.first n) m) (assigned_fits h.covers g u)
    statement_fits h (b.branch {t = t} {b = c} at x y z i g b.no_other) =
        of.of_branch _ t c at ∙ and_both _ _ (leaf_test _ _ (itself_has h.covers i).shape) (and_both _ true (statement_fits (serves_inner y (serves_front (loops_of y) 0 h)) g) refl)
    statement_fits h (b.branch {t = t} {b = c} at x y z i g (b.other {a = e} v u)) =
        of.of_branches _ t c e at ∙ and_both _ _ (leaf_test _ _ (itself_has h.covers i).shape)
        (and_both _ _ (statement_fits (serves_inner y (serves_front (loops_of y) (loops_of v) h)) g) (statement_fits (serves_inner v (serves_past (loops_of y) (loops_of v) h)) u))
    statement_fits h (b.choice {t = t} {bs = bs} at x arms z a u v g b.no_other) =
        let w = together_is h.covers (alone_has h.covers a) u in let e = typed_has h.covers v w in
        of.of_choice _ t bs at ∙ and_both _ _ (leaf_test _ _ e) (and_both _ true (arms_fit (tree_shape d t) w e (serves_front (arm_loops arms) 0 h) g) refl)
    statement_fits h (b.choice {t = t} {bs = bs} at x arms z a u v g (b.other {a = k} y m)) =
        let w = together_is h.covers (alone_has h.covers a) u in let e = typed_has h.covers v w in
        of.of_choices _ t bs k at ∙ and_both _ _ (leaf_test _ _ e)
        (and_both _ _ (arms_fit (tree_shape d t) w e (serves_front (arm_loops arms) (loops_of y) h) g) (statement_fits (serves_inner y (serves_past (arm_loops arms) (loops_of y) h)) m))
    statement_fits h (b.while {t = t} {b = c} at x y i g) =
        of.of_while _ t c at ∙ and_both _ _ (leaf_test _ _ (itself_has h.covers i).shape) (statement_fits (serves_loop _ (serves_inner y h)) g)
    statement_fits h (b.repeated {t = t} {b = c} at x y i g) =
        of.of_repeated _ t c at ∙ and_both _ _ (leaf_test _ _ (itself_has h.covers i).shape) (statement_fits (serves_loop _ (serves_inner y h)) g)
    statement_fits {w = w} h (b.for {to = to} {f = m} {t = t} {b = c} {c = k} at true p name x y z v r i g u) =
        let n = serves_declared name (loops_of z + loops_of v) h in
        of.of_for _ true to m t c k at ∙ and_both _ _ (begins_fits true (loops_of z + loops_of v) h r) (and_both _ _ (leaf_test _ _ (itself_has n.covers i).shape)
        (and_both _ _ (statement_fits (serves_inner z (serves_front (loops_of z) (loops_of v) n)) g) (statement_fits (serves_inner v (serves_past (loops_of z) (loops_of v) n)) u)))
    statement_fits {w = w} h (b.for {to = to} {f = m} {t = t} {b = c} {c = k} at false p name x y z v r i g u) =
        let n = serves_loop (loops_of z + loops_of v) h in
        of.of_for _ false to m t c k at ∙ and_both _ _ (begins_fits false (loops_of z + loops_of v) h r) (and_both _ _ (leaf_test _ _ (itself_has n.covers i).shape)
        (and_both _ _ (statement_fits (serves_inner z (serves_front (loops_of z) (loops_of v) n)) g) (statement_fits (serves_inner v (serves_past (loops_of z) (loops_of v) n)) u)))
    statement_fits h (b.forever {b = c} at y g) = of.of_forever _ c at ∙ statement_fits (serves_loop _ (serves_inner y h)) g
    statement_fits {w = w} h (b.foreach {bounds = bounds} {b = c} at p name q index y e g) =
        of.of_foreach _ bounds w.next c at ∙ and_both _ _ (bounds_are (thing_of (meaning_of w.scope (alone p name))) bounds (λ k f. name_has d _ k (λ x m. h.covers.has (path_name (alone p name)) x m) f) e)
        (and_both _ _ (shape_test _ _ (at_next _ h)) (statement_fits (serves_inner y (serves_declared index _ h)) g))
    statement_fits h (b.delay {v = v} {b = c} at x y n u k m g) = of.of_delay _ (constant_tree v) c at ∙ and_both _ _ (delay_fits v k m) (statement_fits (serves_inner y h) g)
    statement_fits h (b.event {es = es} {b = c} at any xs y n u g) = of.of_event _ any es c at ∙ and_both _ _ (events_are any xs h.covers u) (statement_fits (serves_inner y h) g)
    statement_fits h (b.wait {t = t} {b = c} at x y n i g) = of.of_wait _ t c at ∙ and_both _ _ (leaf_test _ _ (itself_has h.covers i).shape) (statement_fits (serves_inner y h) g)
    statement_fits h (b.return {a = a} at x g) = of.of_return _ a at ∙ returned_fits h.covers h.result g
    statement_fits h (b.break at e) = of.of_break _ at
    statement_fits h (b.continue at e) = of.of_continue _ at
    statement_fits h (b.call {f = f} {ts = ts} at path xs e g) = of.of_call _ f.number ts at ∙ call_fits path xs h.covers e g
    statement_fits h (b.display {ts = ts} at text xs e g) = of.of_display _ text ts at ∙ selves_fit h.covers g
    statement_fits h (b.finish at) = of.of_finish _ at

    all_fit : {w : Around} {xs : List Stmt} {as' : List Act} → Serves w (total (map loops_of xs)) d → BindsAll w xs as' → list_all (λ b. b) (map (act_fits d (result_in w.scope.inside)) as') ≡ true
    all_fit h b.no_statements = refl
    all_fit h (b.more_statements x xs g u) =
        and_both _ _ (statement_fits (serves_inner x (serves_front (loops_of x) (total (map loops_of xs)) h)) g) (all_fit (serves_past (loops_of x) (total (map loops_of xs)) h) u)

    arms_fit : {w : Around} {c : Leaf} {arms : List (List Expr × Stmt)} {bs : List (List Tree × Act)} (test : Shaped) → IsLeaf c → test ≡ Some (c ∷ []) → Serves w (arm_loops arms) d → BindsArms w c arms bs
        → list_all (arm_fits d test) (map (λ (arm : List Tree × Act). (arm.0, act_fits d (result_in w.scope.inside) arm.1)) bs) ≡ true
    arms_fit test v e h b.no_arms = refl
    arms_fit test v e h (b.more_arms xs y arms g m u) =
        and_both _ _ (and_both _ _ (items_fit test h.covers v e g) (statement_fits (serves_inner y (serves_front (loops_of y) (arm_loops arms) h)) m))
        (arms_fit test v e (serves_past (loops_of y) (arm_loops arms) h) u)
