-- What a step of a procedure keeps: a state of a design.
use Rattle.std.proofs.Common.{◌≡◌, ℕ, zero, suc, ◌<◌, ◌≤◌, ◌^◌, ◌||◌, Bool, true, false, not, ◌&&◌, ◌==◌, if◌then◌else◌, List, [], ◌∷◌, ◌++◌, map, length, get_or, refl, ap, sym, subst, ◌∙◌, arith, length-set}
use Rattle.std.specs.Prelude.{All, ⊤, Option, Some, None, slice_get, slice_set, option_map, option_to_list}
use Rattle.std.specs.List.{flat_map}
use Rattle.std.proofs.Math.Seq.{map-set_same}
use Rattle.std.proofs.Math.ListN.{get_or-map}
use Rattle.std.proofs.lemmas.Bool.{and_parts, eqb-true, eq-eqb, false≢true}
use Rattle.std.proofs.lemmas.List.{length-map, get_or-set_same, get_or-set_other}
use Rattle.std.proofs.lemmas.List.Elements.{All-append, All-cons, All-head, All-nil, All-set, All-tail}
use Rattle.std.proofs.lemmas.Option.{slice_get_within, slice_get-map, get_or_from_slice_get, same_Some, none-some}
use Rattle.nt_value.specs.Values.{AreValuesOf, IsValueOf, shape_of}
use Rattle.nt_value.specs.declared.digit.Digit.{Digit}
use Rattle.nt_value.specs.declared.digit.Digit.TheVariants.{Zero, One, X, Z}
use Rattle.nt_value.specs.declared.kind.Edge.{Edge}
use Rattle.nt_value.specs.declared.leaf.Leaf.{Leaf}
use Rattle.nt_design.specs.Expressions.{value_of, values_of}
use Rattle.nt_design.specs.Fitting.{Gives, LocalsFit}
use Rattle.nt_design.specs.Meaning.{most_turns}
use Rattle.nt_design.specs.Parts.{Value, int_leaf, number_in, test_of, written}
use Rattle.nt_design.specs.Reads.{event_trees, pick_trees, target_trees}
use Rattle.nt_design.specs.Rules.{act_fits, bounds_fit, is_delay, is_local}
use Rattle.nt_design.specs.Shapes.{Scope, Shaped, is_both, is_leaf, is_shape, path_shape, target_shape, tree_shape}
use Rattle.nt_design.specs.Statements.{count_of, is_among, path_of}
use Rattle.nt_design.specs.Turns.{Timed, Timing, all_of, and_then, pick}
use Rattle.nt_design.specs.WellFormed.{IsDesign, scope_with, var_shapes}
use Rattle.nt_design.specs.declared.act.Act.{Act, out-Act}
use Rattle.nt_design.specs.declared.act.Act.TheOpen.{Act-F}
use Rattle.nt_design.specs.declared.design.Design.{Design}
use Rattle.nt_design.specs.declared.process.Proc.{Proc}
use Rattle.nt_design.specs.declared.target.Pick.{Pick}
use Rattle.nt_design.specs.declared.target.Target.{Target}
use Rattle.nt_design.specs.declared.target.Target.TheVariants as target
use Rattle.nt_design.specs.declared.tree.Tree.{Tree}
use Rattle.nt_design.proofs.Does.{locals_fit, value_set}
use Rattle.nt_design.proofs.Filled.{Filled, all_at, all_none, int_filled}
use Rattle.nt_design.specs.Fitting.{Leads}
use Rattle.nt_design.proofs.Results.{path_has, value_has}
use Rattle.nt_design.proofs.Shaped.{gives_if, gives_pick, gives_then, is_shape_back, on_shape_back}
use Rattle.nt_design.proofs.Writes.{written_is}
use Rattle.nt_semantics.proofs.Delays.{delay_small}
use Rattle.nt_semantics.proofs.EventKeeps.{outside, turns_give}
use Rattle.nt_semantics.proofs.Parts.{ActSound, PartsSound, TreeSound, all_left, all_right, body_of_proc, part_of_body, part_sound}
use Rattle.nt_semantics.proofs.StartFitting.{begins}
use Rattle.nt_semantics.proofs.ValueKeeps.{put_keeps, put_of_fits, var_has}
use Rattle.nt_semantics.proofs.WakeKeeps.{ItemSound, Sound, proc_fits, proc_sound, sound_append, sound_cons, sound_do, sound_do_all, sound_head, sound_one, sound_or_nothing, sound_tail, values_long}
use Rattle.nt_semantics.specs.Lines.{line_of}
use Rattle.nt_design.specs.Puts.{put_of}
use Rattle.nt_semantics.specs.State.{MachineState, going_on, standing_at, work_at, locals_at, to_do, value_at, var_shape, world_of_state}
use Rattle.nt_semantics.specs.declared.standing.Standing.TheVariants.{Over}
use Rattle.nt_semantics.specs.declared.work.Work.{Work}
use Rattle.nt_semantics.specs.declared.work.Work.TheVariants.{Do, Testing, Stepping, Repeating, Counting, Each, Awaiting}
use Rattle.nt_semantics.specs.StateFits.{IsForeachOf, IsLoopOf, IsPart, HasWork, IsStateOf, StandingFits, PutFits, WaitsAt, WaitsFor}
use Rattle.nt_semantics.specs.Statements.{arm_of, assigns, after_break, after_continue, counted, does, each, foreach_begins, goes_on, goes_round, is_loop, work_step, or_no_work, size_of, statement, statement_step, tests}
use Rattle.nt_semantics.specs.Step.{lines_shown, finishes, locals_after, do_deed, standing_after_deed, proc_step, updates_of, make_step}
use Rattle.nt_semantics.specs.Wake.{functions_of}
use Rattle.nt_semantics.specs.declared.deed.Deed.{Deed}
use Rattle.nt_semantics.specs.declared.deed.Deed.TheVariants as deed
use Rattle.nt_design.specs.declared.put.Put.{Put}

-- ---- where a procedure goes on
going_fits : (moment : ℕ) (items : List Work) → StandingFits moment items (going_on items)
going_fits moment [] = refl
going_fits moment (Awaiting reads body ∷ items) = refl
going_fits moment (Do s ∷ items) = tt
going_fits moment (Testing test step body ∷ items) = tt
going_fits moment (Stepping test step body ∷ items) = tt
going_fits moment (Repeating body ∷ items) = tt
going_fits moment (Counting n body ∷ items) = tt
going_fits moment (Each left bounds i body ∷ items) = tt

-- what a deed of a procedure with these locals is, before these items
abbrev DeedFits : Design → List Value → Deed → List Work → Type 0
DeedFits d locals deed.GoesOn items = ⊤
DeedFits d locals (deed.Writes put) items = PutFits d put
DeedFits d locals (deed.Schedules put) items = PutFits d put
DeedFits d locals (deed.SetsLocal i value) items = IsValueOf (shape_of (get_or locals i [])) value
DeedFits d locals (deed.Delays amount) items = HasWork items × (amount ≤ 2 ^ 48)
DeedFits d locals (deed.Waits kept) items = WaitsFor kept items
DeedFits d locals (deed.Displays line) items = ⊤
DeedFits d locals deed.Finishes items = ⊤

placed_fits : (d : Design) (locals : List Value) (moment : ℕ) (done : Deed) (items : List Work) → moment ≤ 2 ^ 48 → DeedFits d locals done items → StandingFits moment items (standing_after_deed moment done items)
placed_fits d locals moment deed.GoesOn items few h = going_fits moment items
placed_fits d locals moment (deed.Writes put) items few h = going_fits moment items
placed_fits d locals moment (deed.Schedules put) items few h = going_fits moment items
placed_fits d locals moment (deed.SetsLocal i value) items few h = going_fits moment items
placed_fits d locals moment (deed.Delays zero) items few h = h.0
placed_fits d locals moment (deed.Delays (suc n)) items few h = (h.0, (omega arith, omega (arith, few, h.1)))
placed_fits d locals moment (deed.Waits kept) items few h = h
placed_fits d locals moment (deed.Displays line) items few h = going_fits moment items
placed_fits d locals moment deed.Finishes items few h = going_fits moment items

-- a step that a procedure may make
record Made (d : Design) (proc : Proc) (locals : List Value) (step : Deed × List Work) : Type 0 where
  sound : Sound d proc step.1
  fits : DeedFits d locals step.0 step.1

-- ---- what is left to do
pick_sound : {d : Design} {proc : Proc} (digit : Digit) (a b c : List Work) → Sound d proc a → Sound d proc b → Sound d proc c → Sound d proc (pick digit a b c)
pick_sound One a b c p q r = p
pick_sound Zero a b c p q r = q
pick_sound X a b c p q r = r
pick_sound Z a b c p q r = r

if_sound : {d : Design} {proc : Proc} (b : Bool) (x y : List Work) → Sound d proc x → Sound d proc y → Sound d proc (if b then x else y)
if_sound true x y p q = p
if_sound false x y p q = q

continued_sound : {d : Design} {proc : Proc} (items : List Work) → Sound d proc items → Sound d proc (after_continue items)
continued_sound [] h = h
continued_sound (i ∷ items) h =
    if_sound (is_loop i) (i ∷ items) (after_continue items) h (continued_sound items (sound_tail h))

broken_sound : {d : Design} {proc : Proc} (items : List Work) → Sound d proc items → Sound d proc (after_break items)
broken_sound [] h = h
broken_sound (i ∷ items) h =
    if_sound (is_loop i) items (after_break items) (sound_tail h) (broken_sound items (sound_tail h))

-- anything may come out
any_gives : {A : Type 0} (m : Timed A) → Gives m (λ x. ⊤)
any_gives None = tt
any_gives (Some p) = tt

long_gives : (ms : List (Timing Value)) (locals : List Value) (left : ℕ) → Gives (all_of ms locals left) (λ vs. length vs ≡ length ms)
long_gives ms locals left = of_all (all_of ms locals left) (λ new is. values_long ms locals left new is)
  where
    of_all : (m : Timed (List Value)) → ((new : List Value × ℕ) → m ≡ Some new → length new.0 ≡ length ms) → Gives m (λ vs. length vs ≡ length ms)
    of_all None h = tt
    of_all (Some new) h = h new refl

both_back : (o p : Shaped) → is_both o p ≡ true → (s : List Leaf) × (o ≡ Some s) × (p ≡ Some s)
both_back None p h = absurd (false≢true h)
both_back (Some s) p h = (s, refl, is_shape_back p s h)

module _ (d : Design) (proc : Proc) (s : MachineState) (of : IsStateOf d s) (locals : List Value) (own : AreValuesOf proc.locals locals) (whole : ActSound d proc proc.body)
    (values : (t : Tree) (r : List Leaf) → TreeSound d proc t → tree_shape (scope_with d proc.locals None) t ≡ Some r → (left : ℕ) → Gives (value_of (functions_of d) (world_of_state s) t locals left) (IsValueOf r))
    (paths : (path : List Pick) (r w : List Leaf) → All (TreeSound d proc) (flat_map pick_trees path) → path_shape (scope_with d proc.locals None) path r ≡ Some w → (left : ℕ) → Gives (path_of (functions_of d) (world_of_state s) path locals left) (λ steps. Leads steps r w)) where
  abbrev scope : Scope
  scope = scope_with d proc.locals None

  abbrev Well : Deed × List Work → Type 0
  Well = Made d proc locals

  -- a step that leaves only items
  goes : (items : List Work) (left : ℕ) → Sound d proc items → Gives (goes_on items locals left) Well
  goes items left h = record { sound = h; fits = tt }

  -- after an expression whose leaves don't matter
  after : {A : Type 0} (m : Timed A) (go : A → ℕ → Timed (Deed × List Work)) → ((x : A) (l : ℕ) → Gives (go x l) Well) → Gives (and_then m go) Well
  after {A} m go next = gives_then m go (λ (x : A). ⊤) Well (any_gives m) (λ x l u. next x l)

  -- ---- assignments
  local_there : (i : ℕ) (r : List Leaf) → slice_get proc.locals i ≡ Some r → IsValueOf r (get_or locals i [])
  local_there i r at = locals_fit proc.locals locals own i r at

  assigned : (make : Put → Deed) → ((put : Put) (items : List Work) → PutFits d put → DeedFits d locals (make put) items) → (t : Target) (right : Tree) (rest : List Work) → Sound d proc rest → is_both (target_shape scope t) (tree_shape scope right) ≡ true → TreeSound d proc right → All (TreeSound d proc) (target_trees t) → (left : ℕ) → Gives (assigns (functions_of d) (world_of_state s) make t right rest locals left) Well
  assigned make fits (target.Slot n slot low width) right rest ok h sound inner left = goes rest left ok
  assigned make fits (target.Var v path) right rest ok h sound inner left =
      let both = both_back (target_shape scope (target.Var v path)) (tree_shape scope right) h in
      let x = on_shape_back (slice_get (var_shapes d) v) (path_shape scope path) both.0 both.1 in
      let there : var_shape d v ≡ x.0 = get_or_from_slice_get (var_shapes d) v x.0 [] x.1 in
      let low : v < length d.vars = subst (λ n. v < n) (length-map d.vars (λ var. var.shape)) (slice_get_within (var_shapes d) v x.0 x.1) in
      gives_then (value_of (functions_of d) (world_of_state s) right locals left)
      (λ y l. and_then (path_of (functions_of d) (world_of_state s) path locals l) (λ steps k. does (make (put_of v (value_at s.vars v) steps y)) rest locals k))
      (IsValueOf both.0) Well
      (values right both.0 sound both.2 left)
      (λ y l p. gives_then (path_of (functions_of d) (world_of_state s) path locals l) (λ steps k. does (make (put_of v (value_at s.vars v) steps y)) rest locals k)
      (λ steps. Leads steps x.0 both.0) Well
      (paths path x.0 both.0 inner x.2 l)
      (λ steps k q. record {
        sound = ok;
        fits = fits (put_of v (value_at s.vars v) steps y) rest (put_of_fits d v (value_at s.vars v) steps y both.0 low (var_has d s v of).leaves (subst (λ r. Leads steps r both.0) (sym there) q) p);
      }))
  assigned make fits (target.Local i path) right rest ok h sound inner left =
      let both = both_back (target_shape scope (target.Local i path)) (tree_shape scope right) h in
      let x = on_shape_back (slice_get proc.locals i) (path_shape scope path) both.0 both.1 in
      let there = local_there i x.0 x.1 in
      gives_then (value_of (functions_of d) (world_of_state s) right locals left)
      (λ y l. and_then (path_of (functions_of d) (world_of_state s) path locals l) (λ steps k. does (deed.SetsLocal i (written steps y (value_at locals i))) rest locals k))
      (IsValueOf both.0) Well
      (values right both.0 sound both.2 left)
      (λ y l p. gives_then (path_of (functions_of d) (world_of_state s) path locals l) (λ steps k. does (deed.SetsLocal i (written steps y (value_at locals i))) rest locals k)
      (λ steps. Leads steps x.0 both.0) Well
      (paths path x.0 both.0 inner x.2 l)
      (λ steps k q. record { sound = ok; fits = subst (λ r. IsValueOf r (written steps y (value_at locals i))) (sym there.leaves) (written_is steps x.0 both.0 q y (value_at locals i) there p) }))

  -- ---- loops
  -- a loop of a test, perhaps a step, and a body
  record LoopSound (test : Tree) (step : Option Act) (body : Act) : Type 0 where
    leaf : is_leaf (tree_shape scope test) ≡ true
    test_sound : TreeSound d proc test
    step_sound : All (ActSound d proc) (option_to_list step)
    body_sound : ActSound d proc body
    loop : Act
    is_part : IsPart proc.body loop
    is_loop : IsLoopOf test step body (out-Act loop)

  one_act : (a : Act) → ActSound d proc a → All (ActSound d proc) (a ∷ [])
  one_act a h = All-cons (ActSound d proc) a [] h (All-nil (ActSound d proc))

  testing_sound : (test : Tree) (step : Option Act) (body : Act) → LoopSound test step body → ItemSound d proc (Testing test step body)
  testing_sound test step body h = sound_one (Testing test step body) (h.loop, (h.is_part, h.is_loop))

  round_sound : (test : Tree) (step : Option Act) (body : Act) → LoopSound test step body → ItemSound d proc (goes_round test step body)
  round_sound test None body h = testing_sound test None body h
  round_sound test (Some step) body h = sound_one (Stepping test step body) (h.loop, (h.is_part, h.is_loop))

  tested : (test : Tree) (step : Option Act) (body : Act) (rest : List Work) → LoopSound test step body → Sound d proc rest → (left : ℕ) → Gives (tests (functions_of d) (world_of_state s) test step body rest locals left) Well
  tested test step body rest h ok left =
      after (value_of (functions_of d) (world_of_state s) test locals left) (λ t l. goes_on (pick (test_of t) (to_do body ++ goes_round test step body ∷ rest) rest rest) locals l)
      (λ t l. goes (pick (test_of t) (to_do body ++ goes_round test step body ∷ rest) rest rest) l
      (pick_sound (test_of t) (to_do body ++ goes_round test step body ∷ rest) rest rest (sound_append (sound_do h.body_sound) (sound_cons (round_sound test step body h) ok)) ok ok))

  repeating_sound : (body : Act) → ActSound d proc body → ItemSound d proc (Repeating body)
  repeating_sound body h = sound_one (Repeating body) h.part

  counting_sound : (n : ℕ) (body : Act) → ActSound d proc body → ItemSound d proc (Counting n body)
  counting_sound n body h = sound_one (Counting n body) h.part

  -- a `foreach` in the procedure's body
  abbrev Foreach : ℕ × ℕ → ℕ → Act → Type 0
  Foreach bounds i body = (loop : Act) × (IsPart proc.body loop × IsForeachOf bounds i body (out-Act loop))

  do_sound : (a : Act) → ActSound d proc a → ItemSound d proc (Do a)
  do_sound a h = sound_one (Do a) h.part

  counted_sound : (n : ℕ) (body : Act) (rest : List Work) → ActSound d proc body → Sound d proc rest → Sound d proc (counted n body rest)
  counted_sound zero body rest h ok = ok
  counted_sound (suc n) body rest h ok = sound_append (sound_do h) (sound_cons (counting_sound n body h) ok)

  each_made : (n : ℕ) (bounds : ℕ × ℕ) (i : ℕ) (body : Act) (rest : List Work) → slice_get proc.locals i ≡ Some (int_leaf ∷ []) → Foreach bounds i body → ActSound d proc body → Sound d proc rest → (left : ℕ) → Gives (each n bounds i body rest locals left) Well
  each_made zero bounds i body rest at loop h ok left = goes rest left ok
  each_made (suc n) bounds i body rest at loop h ok left = record {
    sound = sound_append (sound_do h) (sound_cons (sound_one (Each n bounds i body) loop) ok);
    fits = record { leaves = sym (local_there i (int_leaf ∷ []) at).leaves; filled = int_filled _ };
  }

  each_of_made : (bounds : Option (ℕ × ℕ)) (i : ℕ) (body : Act) (rest : List Work) → slice_get proc.locals i ≡ Some (int_leaf ∷ []) → ((b : ℕ × ℕ) → bounds ≡ Some b → Foreach b i body) → ActSound d proc body → Sound d proc rest → (left : ℕ) → Gives (foreach_begins bounds i body rest locals left) Well
  each_of_made None i body rest at loop h ok left = goes rest left ok
  each_of_made (Some bounds) i body rest at loop h ok left =
      each_made (size_of bounds) bounds i body rest at (loop bounds refl) h ok left

  -- ---- branches
  arm_made : (test : Value) (arms : List (List Tree × Act)) (other : Option Act) (rest : List Work) → All (ActSound d proc) (map (λ arm. arm.1) arms) → All (ActSound d proc) (option_to_list other) → Sound d proc rest → (left : ℕ) → Gives (arm_of (functions_of d) (world_of_state s) test arms other rest locals left) Well
  arm_made test [] other rest h k ok left =
      goes (or_no_work other ++ rest) left (sound_append (sound_or_nothing other k) ok)
  arm_made test (arm ∷ arms) other rest h k ok left =
      after (is_among test (map (value_of (functions_of d) (world_of_state s)) arm.0) locals left) (λ is l. if is then goes_on (to_do arm.1 ++ rest) locals l else arm_of (functions_of d) (world_of_state s) test arms other rest locals l)
      (λ is l. gives_if is (goes_on (to_do arm.1 ++ rest) locals l) (arm_of (functions_of d) (world_of_state s) test arms other rest locals l) Well
      (λ yes. goes (to_do arm.1 ++ rest) l (sound_append (sound_do (All-head (ActSound d proc) arm.1 (map (λ arm. arm.1) arms) h)) ok))
      (arm_made test arms other rest (All-tail (ActSound d proc) arm.1 (map (λ arm. arm.1) arms) h) k ok l))

  -- ---- statements
  -- what stays at the head while the procedure waits
  waits_at : (a : Act) (x : Act-F Act) (kept : List Value) (rest : List Work) (left : ℕ) → out-Act a ≡ x → ActSound d proc a → Sound d proc rest → WaitsAt kept x → Gives (does (deed.Waits kept) (Do a ∷ rest) locals left) Well
  waits_at a x kept rest left is h ok at =
      record { sound = sound_cons (do_sound a h) ok; fits = subst (WaitsAt kept) (sym is) at }

  statement_made : (a : Act) (x : Act-F Act) (rest : List Work) → out-Act a ≡ x → ActSound d proc a → Sound d proc rest → PartsSound d proc x → (left : ℕ) → Gives (statement (functions_of d) (world_of_state s) a rest x locals left) Well
  statement_made a (Act-F.Null at) rest is h ok part left = goes rest left ok
  statement_made a (Act-F.Block acts at) rest is h ok part left =
      goes (flat_map to_do acts ++ rest) left (sound_append (sound_do_all acts part.parts) ok)
  statement_made a (Act-F.Assign t right at) rest is h ok part left =
      assigned (λ put. deed.Writes put) (λ put items fit. fit) t right rest ok part.fits
      (All-head (TreeSound d proc) right [] (all_right (TreeSound d proc) (target_trees t) (right ∷ []) part.trees))
      (all_left (TreeSound d proc) (target_trees t) (right ∷ []) part.trees) left
  statement_made a (Act-F.Nonblocking t right at) rest is h ok part left =
      assigned (λ put. deed.Schedules put) (λ put items fit. fit) t right rest ok
      (and_parts (not (is_local t)) (is_both (target_shape scope t) (tree_shape scope right)) part.fits).1
      (All-head (TreeSound d proc) right [] (all_right (TreeSound d proc) (target_trees t) (right ∷ []) part.trees))
      (all_left (TreeSound d proc) (target_trees t) (right ∷ []) part.trees) left
  statement_made a (Act-F.If test first second at) rest is h ok part left =
      let no = sound_append (sound_or_nothing second (All-tail (ActSound d proc) first (option_to_list second) part.parts)) ok in
      after (value_of (functions_of d) (world_of_state s) test locals left) (λ t l. goes_on (pick (test_of t) (to_do first ++ rest) (or_no_work second ++ rest) (or_no_work second ++ rest)) locals l)
      (λ t l. goes (pick (test_of t) (to_do first ++ rest) (or_no_work second ++ rest) (or_no_work second ++ rest)) l
      (pick_sound (test_of t) (to_do first ++ rest) (or_no_work second ++ rest) (or_no_work second ++ rest) (sound_append (sound_do (All-head (ActSound d proc) first (option_to_list second) part.parts)) ok) no no))
  statement_made a (Act-F.Case test arms other at) rest is h ok part left =
      after (value_of (functions_of d) (world_of_state s) test locals left) (λ t l. arm_of (functions_of d) (world_of_state s) t arms other rest locals l)
      (λ t l. arm_made t arms other rest (all_left (ActSound d proc) (map (λ arm. arm.1) arms) (option_to_list other) part.parts) (all_right (ActSound d proc) (map (λ arm. arm.1) arms) (option_to_list other) part.parts) ok l)
  statement_made a (Act-F.While test body at) rest is h ok part left =
      tested test None body rest
      (record {
        leaf = (and_parts (is_leaf (tree_shape scope test)) (act_fits scope None body) part.fits).0;
        test_sound = All-head (TreeSound d proc) test [] part.trees;
        step_sound = All-nil (ActSound d proc);
        body_sound = All-head (ActSound d proc) body [] part.parts;
        loop = a;
        is_part = h.part;
        is_loop = subst (IsLoopOf test None body) (sym is) (refl, (refl, refl));
      }) ok left
  statement_made a (Act-F.Repeat count body at) rest is h ok part left =
      after (value_of (functions_of d) (world_of_state s) count locals left) (λ v l. goes_on (counted (count_of (number_in v)) body rest) locals l)
      (λ v l. goes (counted (count_of (number_in v)) body rest) l (counted_sound (count_of (number_in v)) body rest (All-head (ActSound d proc) body [] part.parts) ok))
  statement_made a (Act-F.For fresh t first test step body at) rest is h ok part left =
      let fits = and_parts (is_both (target_shape scope t) (tree_shape scope first)) (is_leaf (tree_shape scope test) && (act_fits scope None step && act_fits scope None body)) part.fits in
      let own_two = all_right (TreeSound d proc) (target_trees t) (first ∷ test ∷ []) part.trees in
      let loop = testing_sound test (Some step) body (record {
        leaf = (and_parts (is_leaf (tree_shape scope test)) (act_fits scope None step && act_fits scope None body) fits.1).0;
        test_sound = All-head (TreeSound d proc) test [] (All-tail (TreeSound d proc) first (test ∷ []) own_two);
        step_sound = one_act step (All-head (ActSound d proc) step (body ∷ []) part.parts);
        body_sound = All-head (ActSound d proc) body [] (All-tail (ActSound d proc) step (body ∷ []) part.parts);
        loop = a;
        is_part = h.part;
        is_loop = subst (IsLoopOf test (Some step) body) (sym is) (refl, (refl, refl));
      }) in
      assigned (λ put. deed.Writes put) (λ put items fit. fit) t first (Testing test (Some step) body ∷ rest) (sound_cons loop ok) fits.0
      (All-head (TreeSound d proc) first (test ∷ []) own_two)
      (all_left (TreeSound d proc) (target_trees t) (first ∷ test ∷ []) part.trees) left
  statement_made a (Act-F.Forever body at) rest is h ok part left =
      let inner = All-head (ActSound d proc) body [] part.parts in
      goes (to_do body ++ Repeating body ∷ rest) left (sound_append (sound_do inner) (sound_cons (repeating_sound body inner) ok))
  statement_made a (Act-F.Foreach bounds i body at) rest is h ok part left =
      let fits = and_parts (is_shape (slice_get proc.locals i) (int_leaf ∷ [])) (act_fits scope None body) (and_parts (bounds_fit bounds None) (is_shape (slice_get proc.locals i) (int_leaf ∷ []) && act_fits scope None body) part.fits).1 in
      each_of_made bounds i body rest (is_shape_back (slice_get proc.locals i) (int_leaf ∷ []) fits.0) (λ b e. (a, (h.part, subst (IsForeachOf b i body) (sym is) (e, (refl, refl))))) (All-head (ActSound d proc) body [] part.parts) ok left
  statement_made a (Act-F.Delay amount body at) rest is h ok part left =
      gives_then (value_of (functions_of d) (world_of_state s) amount locals left) (λ v l. does (deed.Delays (count_of (number_in v))) (to_do body ++ rest) locals l)
      (λ v. count_of (number_in v) ≤ 2 ^ 48) Well
      (delay_small (functions_of d) (world_of_state s) locals left scope amount (and_parts (is_delay scope amount) (act_fits scope None body) part.fits).0)
      (λ v l small. record { sound = sound_append (sound_do (All-head (ActSound d proc) body [] part.parts)) ok; fits = (begins body rest, small) })
  statement_made a (Act-F.Event any on body at) rest is h ok part left =
      gives_then (values_of (functions_of d) (world_of_state s) (event_trees on) locals left) (λ vs l. does (deed.Waits vs) (Do a ∷ rest) locals l)
      (λ vs. length vs ≡ length (map (value_of (functions_of d) (world_of_state s)) (event_trees on))) Well
      (long_gives (map (value_of (functions_of d) (world_of_state s)) (event_trees on)) locals left)
      (λ vs l p. waits_at a (Act-F.Event any on body at) vs rest l is h ok (p ∙ (length-map (event_trees on) (value_of (functions_of d) (world_of_state s)) ∙ length-map on (λ (e : Edge × Tree). e.1))))
  statement_made a (Act-F.Wait test body at) rest is h ok part left =
      after (value_of (functions_of d) (world_of_state s) test locals left) (λ t l. pick (test_of t) (goes_on (to_do body ++ rest) locals l) (does (deed.Waits []) (Do a ∷ rest) locals l) (does (deed.Waits []) (Do a ∷ rest) locals l))
      (λ t l. let stays = waits_at a (Act-F.Wait test body at) [] rest l is h ok refl in
      gives_pick (test_of t) (goes_on (to_do body ++ rest) locals l) (does (deed.Waits []) (Do a ∷ rest) locals l) (does (deed.Waits []) (Do a ∷ rest) locals l) Well
      (goes (to_do body ++ rest) l (sound_append (sound_do (All-head (ActSound d proc) body [] part.parts)) ok)) stays stays)
  statement_made a (Act-F.Return value at) rest is h ok part left = goes rest left ok
  statement_made a (Act-F.Break at) rest is h ok part left = goes (after_break rest) left (broken_sound rest ok)
  statement_made a (Act-F.Continue at) rest is h ok part left = goes (after_continue rest) left (continued_sound rest ok)
  statement_made a (Act-F.Call f args at) rest is h ok part left =
      after (values_of (functions_of d) (world_of_state s) args locals left) (λ vs l. and_then (functions_of d f vs l) (λ v k. goes_on rest locals k))
      (λ vs l. after (functions_of d f vs l) (λ v k. goes_on rest locals k) (λ v k. goes rest k ok))
  statement_made a (Act-F.Display text args at) rest is h ok part left =
      after (values_of (functions_of d) (world_of_state s) args locals left) (λ vs l. does (deed.Displays (line_of text vs)) rest locals l)
      (λ vs l. record { sound = ok; fits = tt })
  statement_made a (Act-F.Finish at) rest is h ok part left = record { sound = ok; fits = tt }

  act_made : (a : Act) (rest : List Work) → ActSound d proc a → Sound d proc rest → (left : ℕ) → Gives (statement_step (functions_of d) (world_of_state s) a rest locals left) Well
  unfolding statement_step
  act_made a rest h ok left = statement_made a (out-Act a) rest refl h ok (part_sound h (out-Act a) refl) left

  -- ---- a procedure's step
  loop_facts : (test : Tree) (step : Option Act) (body loop : Act) → IsPart proc.body loop → (x : Act-F Act) → out-Act loop ≡ x → IsLoopOf test step body x → PartsSound d proc x → LoopSound test step body
  loop_facts test step body loop part (Act-F.While t b at) is ok inner =
      subst (λ (q : Tree × (Option Act × Act)). LoopSound q.0 q.1.0 q.1.1) (λ i. (ok.0 i, (ok.1.0 i, ok.1.1 i)))
      (record {
        leaf = (and_parts (is_leaf (tree_shape scope t)) (act_fits scope None b) inner.fits).0;
        test_sound = All-head (TreeSound d proc) t [] inner.trees;
        step_sound = All-nil (ActSound d proc);
        body_sound = All-head (ActSound d proc) b [] inner.parts;
        loop = loop;
        is_part = part;
        is_loop = subst (IsLoopOf t None b) (sym is) (refl, (refl, refl));
      })
  loop_facts test step body loop part (Act-F.For fresh left first t a b at) is ok inner =
      let fits = (and_parts (is_both (target_shape scope left) (tree_shape scope first)) (is_leaf (tree_shape scope t) && (act_fits scope None a && act_fits scope None b)) inner.fits).1 in
      subst (λ (q : Tree × (Option Act × Act)). LoopSound q.0 q.1.0 q.1.1) (λ i. (ok.0 i, (ok.1.0 i, ok.1.1 i)))
      (record {
        leaf = (and_parts (is_leaf (tree_shape scope t)) (act_fits scope None a && act_fits scope None b) fits).0;
        test_sound = All-head (TreeSound d proc) t [] (All-tail (TreeSound d proc) first (t ∷ []) (all_right (TreeSound d proc) (target_trees left) (first ∷ t ∷ []) inner.trees));
        step_sound = one_act a (All-head (ActSound d proc) a (b ∷ []) inner.parts);
        body_sound = All-head (ActSound d proc) b [] (All-tail (ActSound d proc) a (b ∷ []) inner.parts);
        loop = loop;
        is_part = part;
        is_loop = subst (IsLoopOf t (Some a) b) (sym is) (refl, (refl, refl));
      })
  loop_facts test step body loop part x is ok inner = absurd ok

  loop_there : (test : Tree) (step : Option Act) (body loop : Act) → IsPart proc.body loop → IsLoopOf test step body (out-Act loop) → LoopSound test step body
  loop_there test step body loop part ok =
      loop_facts test step body loop part (out-Act loop) refl ok (part_sound (part_of_body whole loop part) (out-Act loop) refl)

  -- the index and the body of a `foreach`
  record EachSound (i : ℕ) (body : Act) : Type 0 where
    index : slice_get proc.locals i ≡ Some (int_leaf ∷ [])
    inner : ActSound d proc body

  each_facts : (bounds : ℕ × ℕ) (i : ℕ) (body : Act) (x : Act-F Act) → IsForeachOf bounds i body x → PartsSound d proc x → EachSound i body
  each_facts bounds i body (Act-F.Foreach given j b at) ok inner =
      let fits = and_parts (is_shape (slice_get proc.locals j) (int_leaf ∷ [])) (act_fits scope None b) (and_parts (bounds_fit given None) (is_shape (slice_get proc.locals j) (int_leaf ∷ []) && act_fits scope None b) inner.fits).1 in
      subst (λ (q : ℕ × Act). EachSound q.0 q.1) (λ k. (ok.1.0 k, ok.1.1 k))
      (record {
        index = is_shape_back (slice_get proc.locals j) (int_leaf ∷ []) fits.0;
        inner = All-head (ActSound d proc) b [] inner.parts;
      })
  each_facts bounds i body x ok inner = absurd ok

  each_there : (bounds : ℕ × ℕ) (i : ℕ) (body : Act) → Foreach bounds i body → EachSound i body
  each_there bounds i body loop =
      each_facts bounds i body (out-Act loop.0) loop.1.1 (part_sound (part_of_body whole loop.0 loop.1.0) (out-Act loop.0) refl)

  item_made : (i : Work) (rest : List Work) → Sound d proc (i ∷ rest) → (left : ℕ) → Gives (work_step (functions_of d) (world_of_state s) i rest locals left) Well
  unfolding work_step
  item_made (Do a) rest h left = act_made a rest (part_of_body whole a (sound_head h)) (sound_tail h) left
  item_made (Testing test step body) rest h left =
      let loop = sound_head h in
      tested test step body rest (loop_there test step body loop.0 loop.1.0 loop.1.1) (sound_tail h) left
  item_made (Stepping test step body) rest h left =
      let at = sound_head h in
      let loop = loop_there test (Some step) body at.0 at.1.0 at.1.1 in
      act_made step (Testing test (Some step) body ∷ rest) (All-head (ActSound d proc) step [] loop.step_sound) (sound_cons (testing_sound test (Some step) body loop) (sound_tail h)) left
  item_made (Repeating body) rest h left =
      goes (to_do body ++ Repeating body ∷ rest) left (sound_append (sound_do (part_of_body whole body (sound_head h))) h)
  item_made (Counting n body) rest h left =
      goes (counted n body rest) left (counted_sound n body rest (part_of_body whole body (sound_head h)) (sound_tail h))
  item_made (Each n bounds i body) rest h left =
      let loop = each_there bounds i body (sound_head h) in
      each_made n bounds i body rest loop.index (sound_head h) loop.inner (sound_tail h) left
  item_made (Awaiting reads body) rest h left = record { sound = h; fits = refl }

-- ---- the state after a step
locals_keep : (locals : List Value) (done : Deed) (d : Design) (items : List Work) → DeedFits d locals done items → All Filled locals → AreValuesOf (map shape_of locals) (locals_after done locals)
locals_keep locals deed.GoesOn d items h filled = record { leaves = refl; filled = filled }
locals_keep locals (deed.Writes put) d items h filled = record { leaves = refl; filled = filled }
locals_keep locals (deed.Schedules put) d items h filled = record { leaves = refl; filled = filled }
locals_keep locals (deed.SetsLocal i value) d items h filled =
    value_set (map shape_of locals) locals i value (record { leaves = refl; filled = filled }) (subst (λ r. IsValueOf r value) (sym (get_or-map shape_of locals i [])) h)
locals_keep locals (deed.Delays amount) d items h filled = record { leaves = refl; filled = filled }
locals_keep locals (deed.Waits kept) d items h filled = record { leaves = refl; filled = filled }
locals_keep locals (deed.Displays line) d items h filled = record { leaves = refl; filled = filled }
locals_keep locals deed.Finishes d items h filled = record { leaves = refl; filled = filled }

scheduled_fit : (d : Design) (locals : List Value) (done : Deed) (items : List Work) → DeedFits d locals done items → All (PutFits d) (updates_of done)
scheduled_fit d locals deed.GoesOn items h = All-nil (PutFits d)
scheduled_fit d locals (deed.Writes put) items h = All-nil (PutFits d)
scheduled_fit d locals (deed.Schedules put) items h = All-cons (PutFits d) put [] h (All-nil (PutFits d))
scheduled_fit d locals (deed.SetsLocal i value) items h = All-nil (PutFits d)
scheduled_fit d locals (deed.Delays amount) items h = All-nil (PutFits d)
scheduled_fit d locals (deed.Waits kept) items h = All-nil (PutFits d)
scheduled_fit d locals (deed.Displays line) items h = All-nil (PutFits d)
scheduled_fit d locals deed.Finishes items h = All-nil (PutFits d)

performed_keeps : (d : Design) → IsDesign d → (locals : List Value) (done : Deed) (items : List Work) (s : MachineState) → DeedFits d locals done items → IsStateOf d s → IsStateOf d (do_deed d done s)
performed_keeps d design locals deed.GoesOn items s h of = of
performed_keeps d design locals (deed.Writes put) items s h of = put_keeps d design put s h of
performed_keeps d design locals (deed.Schedules put) items s h of = of
performed_keeps d design locals (deed.SetsLocal i value) items s h of = of
performed_keeps d design locals (deed.Delays amount) items s h of = of
performed_keeps d design locals (deed.Waits kept) items s h of = of
performed_keeps d design locals (deed.Displays line) items s h of = of
performed_keeps d design locals deed.Finishes items s h of = of

module _ (d : Design) (design : IsDesign d) (p : ℕ) (proc : Proc) (at : slice_get d.procs p ≡ Some proc) (s : MachineState) (of : IsStateOf d s) where
  low : p < length d.procs
  low = slice_get_within d.procs p proc at

  -- where each procedure then is, with what it has to do
  procs_keep : (done : Deed) (items : List Work) → Made d proc (locals_at s p) (done, items) → (q : ℕ) (other : Proc) → slice_get d.procs q ≡ Some other → Sound d other (get_or (slice_set s.work p items) q []) × StandingFits s.moment (get_or (slice_set s.work p items) q []) (get_or (slice_set s.standings p (standing_after_deed s.moment done items)) q Over)
  procs_keep done items made q other there = of_test (q == p) refl
    where
      of_test : (b : Bool) → (q == p) ≡ b → Sound d other (get_or (slice_set s.work p items) q []) × StandingFits s.moment (get_or (slice_set s.work p items) q []) (get_or (slice_set s.standings p (standing_after_deed s.moment done items)) q Over)
      of_test true is =
          let same = eqb-true q p is in
          let one_proc : proc ≡ other = same_Some proc other (sym at ∙ (ap (slice_get d.procs) (sym same) ∙ there)) in
          let has : get_or (slice_set s.work p items) q [] ≡ items = ap (λ k. get_or (slice_set s.work p items) k []) same ∙ get_or-set_same s.work p items [] (omega (arith, low, of.work)) in
          let stands : get_or (slice_set s.standings p (standing_after_deed s.moment done items)) q Over ≡ standing_after_deed s.moment done items = ap (λ k. get_or (slice_set s.standings p (standing_after_deed s.moment done items)) k Over) same ∙ get_or-set_same s.standings p (standing_after_deed s.moment done items) Over (omega (arith, low, of.standings)) in (
            subst (λ x. Sound d x (get_or (slice_set s.work p items) q [])) one_proc (subst (Sound d proc) (sym has) made.sound),
            subst (λ (l : List Work). StandingFits s.moment l (get_or (slice_set s.standings p (standing_after_deed s.moment done items)) q Over)) (sym has) (subst (StandingFits s.moment items) (sym stands) (placed_fits d (locals_at s p) s.moment done items of.moment made.fits)),
          )
      of_test false is =
          let differs : q ≡ p → ⊥ = λ same. false≢true (sym is ∙ eq-eqb q p same) in
          let has : get_or (slice_set s.work p items) q [] ≡ work_at s q = get_or-set_other s.work p q items [] differs in
          let stands : get_or (slice_set s.standings p (standing_after_deed s.moment done items)) q Over ≡ standing_at s q = get_or-set_other s.standings p q (standing_after_deed s.moment done items) Over differs in
          let x = of.procs q other there in (
            subst (Sound d other) (sym has) (proc_sound x),
            subst (λ (l : List Work). StandingFits s.moment l (get_or (slice_set s.standings p (standing_after_deed s.moment done items)) q Over)) (sym has) (subst (StandingFits s.moment (work_at s q)) (sym stands) x.standing),
          )

  -- the loop variables of a procedure have their digits
  own_filled : All Filled (locals_at s p)
  own_filled = all_at (All Filled) s.locals p [] all_none of.locals_filled

  locals_kept : (step : Deed × List Work) → Made d proc (locals_at s p) step → AreValuesOf (map shape_of (locals_at s p)) (locals_after step.0 (locals_at s p))
  locals_kept step made = locals_keep (locals_at s p) step.0 d step.1 made.fits own_filled

  stepped_keeps : (step : Deed × List Work) → Made d proc (locals_at s p) step → IsStateOf d (make_step d p s step)
  unfolding make_step
  stepped_keeps step made =
      performed_keeps d design (locals_at s p) step.0 step.1 (record s {
        standings = slice_set s.standings p (standing_after_deed s.moment step.0 step.1);
        work = slice_set s.work p step.1;
        locals = slice_set s.locals p (locals_after step.0 (locals_at s p));
        fresh = slice_set s.fresh p false;
        nonblocking = s.nonblocking ++ updates_of step.0;
        shown = s.shown ++ lines_shown p step.0;
        finished = s.finished || finishes step.0;
      }) made.fits
      (record {
        moment = of.moment;
        vars = of.vars;
        nets = of.nets;
        slots = of.slots;
        standings = length-set s.standings p _ ∙ of.standings;
        work = length-set s.work p _ ∙ of.work;
        locals = map-set_same (map shape_of) s.locals p (locals_after step.0 (locals_at s p)) [] (locals_kept step made).leaves ∙ of.locals;
        locals_filled = All-set (All Filled) s.locals p (locals_after step.0 (locals_at s p)) (locals_kept step made).filled of.locals_filled;
        fresh = length-set s.fresh p _ ∙ of.fresh;
        evaluations = of.evaluations;
        resolutions = of.resolutions;
        procs = λ q other there. let x = procs_keep step.0 step.1 made q other there in proc_fits x.0 x.1;
        nonblocking = All-append (PutFits d) s.nonblocking (updates_of step.0) of.nonblocking (scheduled_fit d (locals_at s p) step.0 step.1 made.fits);
        moved = of.moved;
      })

  -- the loop variables of a procedure
  own_shapes : map shape_of (locals_at s p) ≡ proc.locals
  own_shapes =
      sym (get_or-map (map shape_of) s.locals p [])
      ∙ (ap (λ (l : List (List (List Leaf))). get_or l p []) of.locals
      ∙ get_or_from_slice_get (map (λ (x : Proc). x.locals) d.procs) p proc.locals [] (slice_get-map (λ (x : Proc). x.locals) d.procs p ∙ ap (option_map (λ (x : Proc). x.locals)) at))

  own_locals : AreValuesOf proc.locals (locals_at s p)
  own_locals = record { leaves = own_shapes; filled = own_filled }

  step_keeps : (items : List Work) → work_at s p ≡ items → (t : MachineState) → proc_step d p s items ≡ Some t → IsStateOf d t
  step_keeps [] has t h = absurd (none-some t h)
  step_keeps (i ∷ rest) has t h =
      let made = item_made d proc s of (locals_at s p) own_locals (body_of_proc d proc (design.procs p proc at)) value_fits path_fits i rest (subst (Sound d proc) has (proc_sound (of.procs p proc at))) most_turns in
      let x = turns_give (make_step d p s) (Made d proc (locals_at s p)) (work_step (functions_of d) (world_of_state s) i rest (locals_at s p) most_turns) t made h in
      subst (IsStateOf d) x.2 (stepped_keeps x.0 x.1)
    where
      fit : LocalsFit (scope_with d proc.locals None) (locals_at s p)
      fit i shape there = locals_fit proc.locals (locals_at s p) own_locals i shape there

      value_fits : (t : Tree) (r : List Leaf) → TreeSound d proc t → tree_shape (scope_with d proc.locals None) t ≡ Some r → (left : ℕ) → Gives (value_of (functions_of d) (world_of_state s) t (locals_at s p) left) (IsValueOf r)
      value_fits t r sound at_shape left =
          value_has d design most_turns proc.locals (world_of_state s) (outside d design s of) t r at_shape (locals_at s p) fit left

      path_fits : (path : List Pick) (r w : List Leaf) → All (TreeSound d proc) (flat_map pick_trees path) → path_shape (scope_with d proc.locals None) path r ≡ Some w → (left : ℕ) → Gives (path_of (functions_of d) (world_of_state s) path (locals_at s p) left) (λ steps. Leads steps r w)
      path_fits path r w sound at_shape left =
          path_has d design most_turns proc.locals (world_of_state s) (outside d design s of) path r w at_shape (locals_at s p) fit left

none_past : {A : Type 0} (xs : List (List A)) (p : ℕ) → length xs ≤ p → get_or xs p [] ≡ []
none_past [] p low = refl
none_past (x ∷ xs) zero low = absurd (omega (arith, low))
none_past (x ∷ xs) (suc p) low = none_past xs p (omega (arith, low))

past : {A : Type 0} (xs : List A) (p : ℕ) → slice_get xs p ≡ None → length xs ≤ p
past [] p h = omega arith
past (x ∷ xs) zero h = absurd (none-some x (sym h))
past (x ∷ xs) (suc p) h = let rest = past xs p h in omega (arith, rest)

-- a step of a procedure
pub proc_keeps : (d : Design) → IsDesign d → (p : ℕ) (s t : MachineState) → IsStateOf d s → proc_step d p s (work_at s p) ≡ Some t → IsStateOf d t
proc_keeps d design p s t of h = of_proc (slice_get d.procs p) refl
  where
    nothing : (items : List Work) → items ≡ [] → proc_step d p s items ≡ Some t → ⊥
    nothing [] is g = none-some t g
    nothing (i ∷ items) is g = let e = ap length is in omega (arith, e)

    of_proc : (o : Option Proc) → slice_get d.procs p ≡ o → IsStateOf d t
    of_proc (Some proc) at = step_keeps d design p proc at s of (work_at s p) refl t h
    of_proc None at = absurd (nothing (work_at s p) (none_past s.work p (let low = past d.procs p at in omega (arith, low, of.work))) h)
