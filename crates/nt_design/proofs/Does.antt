-- Statements of a function keep the shapes of its locals.
use Rattle.std.proofs.Common.{◌≡◌, ℕ, zero, suc, List, [], ◌∷◌, map, length, refl, ap, sym, subst, ◌∙◌}
use Rattle.std.specs.Prelude.{◌+◌, nat_le, All, Bool, true, ◌&&◌, if◌then◌else◌, Option, Some, None, get_or, slice_get, slice_set}
use Rattle.std.specs.List.{list_all}
use Rattle.std.proofs.Math.ListN.{get_or-map}
use Rattle.std.proofs.lemmas.Option.{get_or_from_slice_get}
use Rattle.std.proofs.lemmas.Bool.{and_parts, leb-true}
use Rattle.std.proofs.lemmas.List.Elements.{All-cons, All-head, All-tail}
use Rattle.nt_value.specs.Operators.{unsigned_leaf}
use Rattle.nt_value.specs.Values.{AreValuesOf, IsValueOf, shape_of}
use Rattle.nt_value.specs.declared.leaf.Leaf.{Leaf}
use Rattle.nt_design.proofs.Filled.{Filled, all_at, int_filled, none_filled}
use Rattle.nt_design.proofs.Shaped.{false_is, gives_if, gives_one, gives_pick, gives_then, is_shape_back, nothing_there, on_leaf_back, on_shape_back, position_in, shaped, some_back, where_so_back}
use Rattle.nt_design.proofs.Writes.{written_is}
use Rattle.nt_design.specs.Expressions.{World, Calls, value_of, values_of}
use Rattle.nt_design.specs.Fitting.{Gives, HasShapes, Into, Leads, LocalsFit}
use Rattle.nt_design.specs.Parts.{Value, number_in, test_of, position_of, IntoItem, IntoPart, written, int_leaf, int_value, leaves_at}
use Rattle.nt_design.specs.Rules.{act_fits, arm_fits, bounds_fit, fits_step, return_fits}
use Rattle.nt_design.specs.Shapes.{Scope, Shaped, tree_shape, target_shape, path_shape, pick_shape, item_shape, part_shape, on_leaf, is_both, is_shape, is_leaf, is_width}
use Rattle.nt_design.specs.Statements.{Doing, nothing, on_next, one_then, block, step_of, path_of, set_local, assign, after_body, iterate, loop_of, loop, repeat_of, count_of, each_of, indices_of, always, or_nothing, is_among, first_arm, set_name, return_of, act_step, does, do_all}
use Rattle.nt_design.specs.Turns.{Timed, Timing, and_then, spend, pick, by_one}
use Rattle.nt_design.specs.declared.act.Act.{Act}
use Rattle.nt_design.specs.declared.act.Act.TheViews.{roll-Act}
use Rattle.nt_design.specs.declared.act.Act.TheOpen.{Act-F}
use Rattle.nt_design.specs.declared.act.Act.TheFolds.{fold-roll-Act, ind-Act, map-Act}
use Rattle.nt_design.specs.declared.act.Flow.{Flow}
use Rattle.nt_design.specs.declared.act.Flow.TheVariants.{Next, Broke, Continued, Returned}
use Rattle.nt_design.specs.declared.target.Pick.{Pick}
use Rattle.nt_design.specs.declared.target.Pick.TheVariants as into
use Rattle.nt_design.specs.declared.target.Target.{Target}
use Rattle.nt_design.specs.declared.target.Target.TheVariants as target
use Rattle.nt_design.specs.declared.tree.Tree.{Tree}

-- ---- what comes out
-- whatever comes out first
pub then_any : {A B : Type 0} (m : Timed A) (go : A → ℕ → Timed B) (Q : B → Type 0) → ((x : A) (l : ℕ) → Gives (go x l) Q) → Gives (and_then m go) Q
then_any None go Q next = tt
then_any (Some p) go Q next = next p.0 p.1

pub gives_spend : {A : Type 0} (left : ℕ) (go : ℕ → Timed A) (Q : A → Type 0) → ((l : ℕ) → Gives (go l) Q) → Gives (spend left go) Q
gives_spend zero go Q next = tt
gives_spend (suc left) go Q next = next left

pub is_both_back : (a b : Shaped) → is_both a b ≡ true → (s : List Leaf) × (a ≡ Some s) × (b ≡ Some s)
is_both_back None b h = false_is h
is_both_back (Some s) b h = (s, refl, is_shape_back b s h)

-- ---- locals
-- locals of a scope have their shapes
pub locals_fit : (shapes : List (List Leaf)) (locals : List Value) → AreValuesOf shapes locals → (i : ℕ) (s : List Leaf) → slice_get shapes i ≡ Some s → IsValueOf s (get_or locals i [])
locals_fit shapes locals h i s at = record {
  leaves = of_locals locals i (ap (λ l. slice_get l i) h.leaves ∙ at);
  filled = all_at Filled locals i [] none_filled h.filled;
}
  where
    of_locals : (locals : List Value) (i : ℕ) → slice_get (map shape_of locals) i ≡ Some s → shape_of (get_or locals i []) ≡ s
    of_locals [] i at = nothing_there s at
    of_locals (v ∷ locals) zero at = some_back (shape_of v) s at
    of_locals (v ∷ locals) (suc i) at = of_locals locals i at

-- a local that takes a value of its shape
pub set_kept : (shapes : List (List Leaf)) (locals : List Value) (i : ℕ) (v : Value) → AreValuesOf shapes locals → ((s : List Leaf) → slice_get shapes i ≡ Some s → IsValueOf s v) → AreValuesOf shapes (slice_set locals i v)
set_kept shapes locals i v h has = record {
  leaves = of_locals locals i (λ s at. (has s (ap (λ l. slice_get l i) (sym h.leaves) ∙ at)).leaves) ∙ h.leaves;
  filled = of_digits locals i h.filled (λ s at. (has s (ap (λ l. slice_get l i) (sym h.leaves) ∙ at)).filled);
}
  where
    of_locals : (locals : List Value) (i : ℕ) → ((s : List Leaf) → slice_get (map shape_of locals) i ≡ Some s → shape_of v ≡ s) → map shape_of (slice_set locals i v) ≡ map shape_of locals
    of_locals [] i has = refl
    of_locals (w ∷ locals) zero has = ap (λ s. s ∷ map shape_of locals) (has (shape_of w) refl)
    of_locals (w ∷ locals) (suc i) has = ap (λ l. shape_of w ∷ l) (of_locals locals i has)

    of_digits : (locals : List Value) (i : ℕ) → All Filled locals → ((s : List Leaf) → slice_get (map shape_of locals) i ≡ Some s → Filled v) → All Filled (slice_set locals i v)
    of_digits [] i h has = h
    of_digits (w ∷ locals) zero h has = All-cons Filled v locals (has (shape_of w) refl) (All-tail Filled w locals h)
    of_digits (w ∷ locals) (suc i) h has =
        All-cons Filled w (slice_set locals i v) (All-head Filled w locals h) (of_digits locals i (All-tail Filled w locals h) has)

-- the value at a place is one of the shape there
pub value_there : (shapes : List (List Leaf)) (values : List Value) (i : ℕ) → AreValuesOf shapes values → IsValueOf (get_or shapes i []) (get_or values i [])
value_there shapes values i h = record {
  leaves = sym (get_or-map shape_of values i []) ∙ ap (λ l. get_or l i []) h.leaves;
  filled = all_at Filled values i [] none_filled h.filled;
}

-- another such value in its place
pub value_set : (shapes : List (List Leaf)) (values : List Value) (i : ℕ) (v : Value) → AreValuesOf shapes values → IsValueOf (get_or shapes i []) v → AreValuesOf shapes (slice_set values i v)
value_set shapes values i v h is =
    set_kept shapes values i v h (λ s at. subst (λ r. IsValueOf r v) (get_or_from_slice_get shapes i s [] at) is)

-- ---- paths
-- a step leads to the part that its shape says
pub step_fits : (scope : Scope) (calls : Calls) (world : World) → HasShapes scope calls world → (p : Pick) (s r : List Leaf) → pick_shape scope p s ≡ Some r → (locals : List Value) → LocalsFit scope locals → (left : ℕ) → Gives (step_of calls world p locals left) (λ step. Into step s r)
step_fits scope calls world fits (into.Leaves first count) s r h locals ok left =
    let cut = where_so_back (nat_le (first + count) (length s)) (leaves_at first count s) r h in
    (leb-true (first + count) (length s) cut.0, cut.1)
step_fits scope calls world fits (into.Item index low size up) s r h locals ok left =
    let at = on_leaf_back (tree_shape scope index) (λ i. item_shape size s) r h in
    gives_one (λ i. IntoItem (position_of low size up (number_in i)) size) (value_of calls world index) (IsValueOf (at.0 ∷ [])) (λ step. Into step s r) locals left
    (shaped scope calls world fits index (at.0 ∷ []) at.1 locals ok left)
    (λ i p. (at.2, position_in low size up (number_in i)))
step_fits scope calls world fits (into.Part low width) s r h locals ok left =
    let at = on_leaf_back (tree_shape scope low) (λ i. on_leaf (Some s) (part_shape width)) r h in
    let of = on_leaf_back (Some s) (part_shape width) r at.2 in
    let cut = where_so_back (is_width width) (unsigned_leaf width of.0.four ∷ []) r of.2 in
    gives_one (λ i. IntoPart (number_in i) width) (value_of calls world low) (IsValueOf (at.0 ∷ [])) (λ step. Into step s r) locals left
    (shaped scope calls world fits low (at.0 ∷ []) at.1 locals ok left)
    (λ i p. (of.0, some_back s (of.0 ∷ []) of.1, sym cut.1))

pub path_fits : (scope : Scope) (calls : Calls) (world : World) → HasShapes scope calls world → (path : List Pick) (s r : List Leaf) → path_shape scope path s ≡ Some r → (locals : List Value) → LocalsFit scope locals → (left : ℕ) → Gives (path_of calls world path locals left) (λ steps. Leads steps s r)
path_fits scope calls world fits [] s r h locals ok left = some_back s r h
path_fits scope calls world fits (p ∷ path) s r h locals ok left =
    let first = on_shape_back (pick_shape scope p s) (path_shape scope path) r h in
    gives_then (step_of calls world p locals left) (λ x l. and_then (path_of calls world path locals l) (λ xs k. Some (x ∷ xs, k))) (λ step. Into step s first.0) (λ steps. Leads steps s r)
    (step_fits scope calls world fits p s first.0 first.1 locals ok left)
    (λ x l leads. gives_then (path_of calls world path locals l) (λ xs k. Some (x ∷ xs, k)) (λ steps. Leads steps first.0 r) (λ steps. Leads steps s r)
    (path_fits scope calls world fits path first.0 r first.2 locals ok l)
    (λ xs k on. (first.0, leads, on)))

-- ---- statements
-- the local that takes what a function returns has the leaves of its result
abbrev pub Named : Scope → Shaped → ℕ → Type 0
Named scope result name =
    (leaf : Leaf) (leaves s : List Leaf) → result ≡ Some (leaf ∷ leaves) → slice_get scope.locals name ≡ Some s → leaf ∷ leaves ≡ s

-- the locals have the shapes of a scope, as many as there are
abbrev pub Kept : Scope → List Value → Type 0
Kept scope locals = AreValuesOf scope.locals locals

-- something done keeps the shapes of the locals
abbrev pub Keeps : Scope → Doing → Type 0
Keeps scope d = (locals : List Value) → Kept scope locals → (left : ℕ) → Gives (d locals left) (λ e. Kept scope e.0)

module _ (scope : Scope) (result : Shaped) (calls : Calls) (world : World) (name : ℕ) (fits : HasShapes scope calls world) (named : Named scope result name) where
  abbrev Ends : List Value × Flow → Type 0
  Ends e = Kept scope e.0

  nothing_keeps : Keeps scope nothing
  nothing_keeps locals ok left = ok

  next_keeps : (flow : Flow) (go : Doing) → Keeps scope go → Keeps scope (on_next flow go)
  next_keeps Next go h locals ok left = h locals ok left
  next_keeps Broke go h locals ok left = ok
  next_keeps Continued go h locals ok left = ok
  next_keeps Returned go h locals ok left = ok

  then_keeps : (first second : Doing) → Keeps scope first → Keeps scope second → Keeps scope (one_then first second)
  then_keeps first second h k locals ok left =
      gives_then (first locals left) (λ e l. on_next e.1 second e.0 l) Ends Ends (h locals ok left)
      (λ e l is. next_keeps e.1 second k e.0 is l)

  assign_keeps : (left : Target) (right : Tree) → is_both (target_shape scope left) (tree_shape scope right) ≡ true → Keeps scope (assign calls world left right)
  assign_keeps (target.Var v path) right h locals ok left = ok
  assign_keeps (target.Slot net slot low width) right h locals ok left = ok
  assign_keeps (target.Local i path) right h locals ok left =
      let both = is_both_back (target_shape scope (target.Local i path)) (tree_shape scope right) h in
      let at = on_shape_back (slice_get scope.locals i) (path_shape scope path) both.0 both.1 in
      let fit = locals_fit scope.locals locals ok in
      gives_then (value_of calls world right locals left)
      (λ v l. by_one (λ steps. (set_local i steps v locals, Next)) (path_of calls world path) locals l)
      (IsValueOf both.0) Ends
      (shaped scope calls world fits right both.0 both.2 locals fit left)
      (λ v l is. gives_one (λ steps. (set_local i steps v locals, Next)) (path_of calls world path) (λ steps. Leads steps at.0 both.0) Ends locals l
      (path_fits scope calls world fits path at.0 both.0 at.2 locals fit l)
      (λ steps leads. set_kept scope.locals locals i (written steps v (get_or locals i [])) ok
      (λ s there. subst (λ r. IsValueOf r (written steps v (get_or locals i []))) (some_back at.0 s (sym at.1 ∙ there)) (written_is steps at.0 both.0 leads v (get_or locals i []) (fit i at.0 at.1) is))))

  body_keeps : (flow : Flow) (go : Doing) → Keeps scope go → Keeps scope (after_body flow go)
  body_keeps Next go h locals ok left = h locals ok left
  body_keeps Broke go h locals ok left = ok
  body_keeps Continued go h locals ok left = h locals ok left
  body_keeps Returned go h locals ok left = ok

  iterate_keeps : (body go : Doing) → Keeps scope body → Keeps scope go → Keeps scope (iterate body go)
  iterate_keeps body go h k locals ok left =
      gives_spend left (λ l. and_then (body locals l) (λ e j. after_body e.1 go e.0 j)) Ends
      (λ l. gives_then (body locals l) (λ e j. after_body e.1 go e.0 j) Ends Ends (h locals ok l)
      (λ e j is. body_keeps e.1 go k e.0 is j))

  loop_of_keeps : (n : ℕ) (test : Timing Value) (step body : Doing) → Keeps scope step → Keeps scope body → Keeps scope (loop_of n test step body)
  unfolding loop_of
  loop_of_keeps zero test step body h k locals ok left = tt
  loop_of_keeps (suc n) test step body h k locals ok left =
      then_any (test locals left)
      (λ t l. pick (test_of t) (iterate body (one_then step (loop_of n test step body)) locals l) (nothing locals l) (nothing locals l)) Ends
      (λ t l. gives_pick (test_of t) (iterate body (one_then step (loop_of n test step body)) locals l) (nothing locals l) (nothing locals l) Ends
      (iterate_keeps body (one_then step (loop_of n test step body)) k (then_keeps step (loop_of n test step body) h (loop_of_keeps n test step body h k)) locals ok l)
      ok ok)

  loop_keeps : (test : Timing Value) (step body : Doing) → Keeps scope step → Keeps scope body → Keeps scope (loop test step body)
  unfolding loop
  loop_keeps test step body h k locals ok left = loop_of_keeps (suc left) test step body h k locals ok left

  repeat_keeps : (n : ℕ) (body : Doing) → Keeps scope body → Keeps scope (repeat_of n body)
  unfolding repeat_of
  repeat_keeps zero body h locals ok left = ok
  repeat_keeps (suc n) body h locals ok left = iterate_keeps body (repeat_of n body) h (repeat_keeps n body h) locals ok left

  each_keeps : (indices : List ℕ) (i : ℕ) (body : Doing) → slice_get scope.locals i ≡ Some (int_leaf ∷ []) → Keeps scope body → Keeps scope (each_of indices i body)
  unfolding each_of
  each_keeps [] i body at h locals ok left = ok
  each_keeps (index ∷ indices) i body at h locals ok left =
      iterate_keeps body (each_of indices i body) h (each_keeps indices i body at h) (slice_set locals i (int_value index))
      (set_kept scope.locals locals i (int_value index) ok (λ s there. record { leaves = some_back (int_leaf ∷ []) s (sym at ∙ there); filled = int_filled index })) left

  return_keeps : (r : Shaped) → r ≡ result → (value : Option Tree) → return_fits scope r value ≡ true → Keeps scope (return_of calls world name value)
  return_keeps r is None h locals ok left = ok
  return_keeps None is (Some value) h locals ok left = false_is h
  return_keeps (Some shape) is (Some value) h locals ok left =
      gives_one (λ v. (set_name name v locals, Returned)) (value_of calls world value) (IsValueOf shape) Ends locals left
      (shaped scope calls world fits value shape (is_shape_back (tree_shape scope value) shape h) locals (locals_fit scope.locals locals ok) left)
      (λ v p. name_kept v p)
    where
      name_kept : (v : Value) → IsValueOf shape v → Kept scope (set_name name v locals)
      name_kept [] p = ok
      name_kept (l ∷ ls) p =
          set_kept scope.locals locals name (l ∷ ls) ok
          (λ s there. record { leaves = named l.leaf (shape_of ls) s (sym is ∙ ap Some (sym p.leaves)) there; filled = p.filled })

  abbrev Claim : Act → Type 0
  Claim act = act_fits scope result act ≡ true → Keeps scope (does calls world name act)

  abbrev Below : Type 0
  Below = (act : Act) × Claim act

  abbrev acts_of : List Below → List Act
  acts_of bs = map (λ (b : Below). b.0) bs

  block_keeps : (bs : List Below) → list_all (λ b. b) (map (act_fits scope result) (acts_of bs)) ≡ true → Keeps scope (block (map (does calls world name) (acts_of bs)))
  block_keeps [] h = nothing_keeps
  block_keeps (b ∷ bs) h =
      let parts = and_parts (act_fits scope result b.0) (list_all (λ b. b) (map (act_fits scope result) (acts_of bs))) h in
      then_keeps (does calls world name b.0) (block (map (does calls world name) (acts_of bs))) (b.1 parts.0) (block_keeps bs parts.1)

  abbrev Arm : Type 0
  Arm = List Tree × Below

  abbrev opened_arms : List Arm → List (List Tree × Act)
  opened_arms arms = map (λ (arm : Arm). (arm.0, arm.1.0)) arms

  arms_keep : (test : Shaped) (t : Value) (arms : List Arm) (other : Doing) → list_all (arm_fits scope test) (map (λ (arm : List Tree × Act). (arm.0, act_fits scope result arm.1)) (opened_arms arms)) ≡ true → Keeps scope other → Keeps scope (first_arm calls world t (map (λ (arm : List Tree × Act). (arm.0, does calls world name arm.1)) (opened_arms arms)) other)
  unfolding first_arm
  arms_keep test t [] other h k locals ok left = k locals ok left
  arms_keep test t (arm ∷ arms) other h k locals ok left =
      let parts = and_parts (arm_fits scope test (arm.0, act_fits scope result arm.1.0)) (list_all (arm_fits scope test) (map (λ (arm : List Tree × Act). (arm.0, act_fits scope result arm.1)) (opened_arms arms))) h in
      let own = and_parts (list_all (λ item. is_both test (tree_shape scope item)) arm.0) (act_fits scope result arm.1.0) parts.0 in
      then_any (is_among t (map (value_of calls world) arm.0) locals left)
      (λ is l. if is then does calls world name arm.1.0 locals l else first_arm calls world t (map (λ (arm : List Tree × Act). (arm.0, does calls world name arm.1)) (opened_arms arms)) other locals l) Ends
      (λ is l. gives_if is (does calls world name arm.1.0 locals l) (first_arm calls world t (map (λ (arm : List Tree × Act). (arm.0, does calls world name arm.1)) (opened_arms arms)) other locals l) Ends
      (λ e. arm.1.1 own.1 locals ok l)
      (arms_keep test t arms other parts.1 k locals ok l))

  abbrev StepOf : Act-F Below → Type 0
  StepOf y =
      fits_step scope result (map-Act Act Bool (act_fits scope result) (map-Act Below Act (λ e. e.0) y)) ≡ true →
      Keeps scope (act_step calls world name (map-Act Act Doing (does calls world name) (map-Act Below Act (λ e. e.0) y)))

  step : (y : Act-F Below) → StepOf y
  step (Act-F.Null at) h locals ok left = ok
  step (Act-F.Block items at) h locals ok left = block_keeps items h locals ok left
  step (Act-F.Assign to right at) h locals ok left = assign_keeps to right h locals ok left
  step (Act-F.Nonblocking to right at) h locals ok left = ok
  step (Act-F.If test first None at) h locals ok left =
      let parts = and_parts (is_leaf (tree_shape scope test)) (act_fits scope result first.0 && true) h in
      let inner = and_parts (act_fits scope result first.0) true parts.1 in
      then_any (value_of calls world test locals left)
      (λ t l. pick (test_of t) (does calls world name first.0 locals l) (nothing locals l) (nothing locals l)) Ends
      (λ t l. gives_pick (test_of t) (does calls world name first.0 locals l) (nothing locals l) (nothing locals l) Ends (first.1 inner.0 locals ok l) ok ok)
  step (Act-F.If test first (Some second) at) h locals ok left =
      let parts = and_parts (is_leaf (tree_shape scope test)) (act_fits scope result first.0 && act_fits scope result second.0) h in
      let inner = and_parts (act_fits scope result first.0) (act_fits scope result second.0) parts.1 in
      then_any (value_of calls world test locals left)
      (λ t l. pick (test_of t) (does calls world name first.0 locals l) (does calls world name second.0 locals l) (does calls world name second.0 locals l)) Ends
      (λ t l. gives_pick (test_of t) (does calls world name first.0 locals l) (does calls world name second.0 locals l) (does calls world name second.0 locals l) Ends
      (first.1 inner.0 locals ok l) (second.1 inner.1 locals ok l) (second.1 inner.1 locals ok l))
  step (Act-F.Case test arms None at) h locals ok left =
      let armed = list_all (arm_fits scope (tree_shape scope test)) (map (λ (arm : List Tree × Act). (arm.0, act_fits scope result arm.1)) (opened_arms arms)) in
      let parts = and_parts (is_leaf (tree_shape scope test)) (armed && true) h in
      let inner = and_parts armed true parts.1 in
      then_any (value_of calls world test locals left)
      (λ t l. first_arm calls world t (map (λ (arm : List Tree × Act). (arm.0, does calls world name arm.1)) (opened_arms arms)) (or_nothing None) locals l) Ends
      (λ t l. arms_keep (tree_shape scope test) t arms (or_nothing None) inner.0 nothing_keeps locals ok l)
  step (Act-F.Case test arms (Some other) at) h locals ok left =
      let armed = list_all (arm_fits scope (tree_shape scope test)) (map (λ (arm : List Tree × Act). (arm.0, act_fits scope result arm.1)) (opened_arms arms)) in
      let parts = and_parts (is_leaf (tree_shape scope test)) (armed && act_fits scope result other.0) h in
      let inner = and_parts armed (act_fits scope result other.0) parts.1 in
      then_any (value_of calls world test locals left)
      (λ t l. first_arm calls world t (map (λ (arm : List Tree × Act). (arm.0, does calls world name arm.1)) (opened_arms arms)) (or_nothing (Some (does calls world name other.0))) locals l) Ends
      (λ t l. arms_keep (tree_shape scope test) t arms (or_nothing (Some (does calls world name other.0))) inner.0 (other.1 inner.1) locals ok l)
  step (Act-F.While test body at) h locals ok left =
      let parts = and_parts (is_leaf (tree_shape scope test)) (act_fits scope result body.0) h in
      loop_keeps (value_of calls world test) nothing (does calls world name body.0) nothing_keeps (body.1 parts.1) locals ok left
  step (Act-F.Repeat count body at) h locals ok left =
      let parts = and_parts (is_leaf (tree_shape scope count)) (act_fits scope result body.0) h in
      then_any (value_of calls world count locals left) (λ v l. repeat_of (count_of (number_in v)) (does calls world name body.0) locals l) Ends
      (λ v l. repeat_keeps (count_of (number_in v)) (does calls world name body.0) (body.1 parts.1) locals ok l)
  step (Act-F.For fresh to first test next body at) h locals ok left =
      let parts = and_parts (is_both (target_shape scope to) (tree_shape scope first)) (is_leaf (tree_shape scope test) && (act_fits scope result next.0 && act_fits scope result body.0)) h in
      let inner = and_parts (is_leaf (tree_shape scope test)) (act_fits scope result next.0 && act_fits scope result body.0) parts.1 in
      let both = and_parts (act_fits scope result next.0) (act_fits scope result body.0) inner.1 in
      then_keeps (assign calls world to first) (loop (value_of calls world test) (does calls world name next.0) (does calls world name body.0))
      (assign_keeps to first parts.0)
      (loop_keeps (value_of calls world test) (does calls world name next.0) (does calls world name body.0) (next.1 both.0) (body.1 both.1)) locals ok left
  step (Act-F.Forever body at) h locals ok left =
      loop_keeps always nothing (does calls world name body.0) nothing_keeps (body.1 h) locals ok left
  step (Act-F.Foreach bounds i body at) h locals ok left =
      let parts = and_parts (bounds_fit bounds scope.many) (is_shape (slice_get scope.locals i) (int_leaf ∷ []) && act_fits scope result body.0) h in
      let inner = and_parts (is_shape (slice_get scope.locals i) (int_leaf ∷ [])) (act_fits scope result body.0) parts.1 in
      each_keeps (indices_of (length world.many) bounds) i (does calls world name body.0) (is_shape_back (slice_get scope.locals i) (int_leaf ∷ []) inner.0) (body.1 inner.1) locals ok left
  step (Act-F.Delay amount body at) h locals ok left = ok
  step (Act-F.Event any on body at) h locals ok left = ok
  step (Act-F.Wait test body at) h locals ok left = ok
  step (Act-F.Return value at) h locals ok left = return_keeps result refl value h locals ok left
  step (Act-F.Break at) h locals ok left = ok
  step (Act-F.Continue at) h locals ok left = ok
  step (Act-F.Call f args at) h locals ok left =
      then_any (values_of calls world args locals left) (λ vs l. and_then (calls f vs l) (λ v k. nothing locals k)) Ends
      (λ vs l. then_any (calls f vs l) (λ v k. nothing locals k) Ends (λ v k. ok))
  step (Act-F.Display text args at) h locals ok left = ok
  step (Act-F.Finish at) h locals ok left = ok

  opened : (x : Act-F Act) → does calls world name (roll-Act x) ≡ act_step calls world name (map-Act Act Doing (does calls world name) x)
  unfolding does
  opened x = fold-roll-Act Doing (act_step calls world name) x

  rolled : (y : Act-F Below) → Claim (roll-Act (map-Act Below Act (λ e. e.0) y))
  rolled y h locals ok left =
      let x = map-Act Below Act (λ e. e.0) y in
      subst (λ (m : Doing). Gives (m locals left) Ends) (sym (opened x)) (step y (sym (fold-roll-Act Bool (fits_step scope result) x) ∙ h) locals ok left)

  all_claims : (act : Act) → Claim act
  all_claims = ind-Act Claim (λ x y is. subst (λ z. Claim (roll-Act z)) is (rolled y))

-- a statement of a function keeps the shapes of the locals
pub all_keep : (scope : Scope) (result : Shaped) (calls : Calls) (world : World) (name : ℕ) → HasShapes scope calls world → Named scope result name → (act : Act) → act_fits scope result act ≡ true → Keeps scope (does calls world name act)
all_keep scope result calls world name fits named act h = all_claims scope result calls world name fits named act h

-- so do statements in order
pub all_done : (scope : Scope) (result : Shaped) (calls : Calls) (world : World) (name : ℕ) → HasShapes scope calls world → Named scope result name → (acts : List Act) → All (λ a. act_fits scope result a ≡ true) acts → Keeps scope (do_all calls world name acts)
all_done scope result calls world name fits named [] h locals ok left = ok
all_done scope result calls world name fits named (a ∷ acts) h locals ok left =
    then_keeps scope result calls world name fits named (does calls world name a) (do_all calls world name acts)
    (all_keep scope result calls world name fits named a (All-head (λ a. act_fits scope result a ≡ true) a acts h))
    (all_done scope result calls world name fits named acts (All-tail (λ a. act_fits scope result a ≡ true) a acts h))
    locals ok left
