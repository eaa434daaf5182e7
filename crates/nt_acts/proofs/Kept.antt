-- Statements keep the shapes of the locals, so that what follows them rests on the same.
use Rattle.std.proofs.Common.{◌≡◌, ◌<◌, ℕ, zero, suc, ◌+◌, ◌-◌, ◌*◌, List, [], ◌∷◌, map, length, refl, ap, sym, subst, ◌∙◌, arith}
use Rattle.std.specs.Prelude.{All, Bool, true, false, IfOk, if◌then◌else◌, Option, Some, None, Result, Ok, Err, get_or, option_map, option_to_list, slice_get, slice_set}
use Rattle.std.proofs.lemmas.List.Elements.{All-head}
use Rattle.nt_value.specs.Values.{AreValuesOf}
use Rattle.nt_value.specs.declared.leaf.Leaf.{Leaf}
use Rattle.nt_value.specs.declared.place.Place.{Place}
use Rattle.nt_design.proofs.Acts.{does_assign, does_case_with, does_case_without, does_if_alone, does_if_else}
use Rattle.nt_design.proofs.Loops.{arm_more as loops_arm_more, arm_none as loops_arm_none}
use Rattle.nt_design.proofs.Does.{all_keep, gives_spend, set_kept, then_any}
use Rattle.nt_design.proofs.Filled.{int_filled}
use Rattle.nt_design.proofs.Shaped.{gives_pick, gives_then, nothing_there, some_back}
use Rattle.nt_design.specs.Expressions.{Calls, World, value_of}
use Rattle.nt_design.specs.Fitting.{Gives}
use Rattle.nt_design.specs.Parts.{Value, Step, int_leaf, int_value, test_of}
use Rattle.nt_design.specs.Shapes.{Scope, Signature, tree_shape}
use Rattle.nt_design.specs.Sizes.{act_size, acts_size, sum_of}
use Rattle.nt_design.specs.Statements.{Doing, assign, does, first_arm, is_among, nothing, or_nothing, path_of, set_local}
use Rattle.nt_design.specs.Turns.{Timed, Timing, and_then, pick}
use Rattle.nt_design.specs.declared.act.Act as act
use Rattle.nt_design.specs.declared.act.Act.{Act}
use Rattle.nt_design.specs.declared.act.Act.TheViews as view
use Rattle.nt_design.specs.declared.env.Stop.{Stop}
use Rattle.nt_design.specs.declared.act.Flow.{Flow}
use Rattle.nt_design.specs.declared.act.Flow.TheVariants.{Next}
use Rattle.nt_design.specs.declared.target.Target.{Target}
use Rattle.nt_design.specs.declared.target.Target.TheVariants as target
use Rattle.nt_design.specs.declared.tree.Tree.{Tree}
use Rattle.nt_values.proofs.Nodes.{has}
use Rattle.nt_values.specs.Tells.{Tells}
use Rattle.nt_values.specs.Typed.{Typed}
use Rattle.nt_acts.proofs.Chosen.{arm_more, arm_none}
use Rattle.nt_acts.proofs.Inner.{arms_size, got_or, there as inside_of}
use Rattle.nt_acts.specs.Arms.{ArmsAlike, arm_at}
use Rattle.nt_acts.specs.Doable.{CaseDoable, Doable, EachDoable, Fits, with_locals}
use Rattle.nt_acts.specs.Endings.{ends, once, passes, step_or_nothing, then_step, turn}

-- locals that fit one scope fit each that they did
pub kept_all : (a : List (List Leaf)) (first now : List Value) → AreValuesOf a first → AreValuesOf a now → (shapes : List (List Leaf)) → AreValuesOf shapes first → AreValuesOf shapes now
kept_all a first now h k shapes g = subst (λ s. AreValuesOf s now) (sym h.leaves ∙ g.leaves) k

abbrev pub Kept : Scope → List Value → Type 0
Kept scope locals = AreValuesOf scope.locals locals

step_keeps : (scope : Scope) (end : Option Flow) (step : Doing) → ((now : List Value) → Kept scope now → (left : ℕ) → Gives (step now left) (λ e. Kept scope e.0)) → (now : List Value) → Kept scope now → (left : ℕ) → Gives (then_step end step now left) (λ e. Kept scope e.0)
step_keeps scope None step h now kept left =
    gives_then (step now left) (λ e k. Some ((e.0, passes e.1), k)) (λ e. Kept scope e.0) (λ (e : List Value × Option Flow). Kept scope e.0) (h now kept left) (λ e k is. is)
step_keeps scope (Some flow) step h now kept left = kept

module _ {signatures : List (Option Signature)} {calls : Calls} {world : World} {name : ℕ} where
  -- the same with other locals of these shapes
  pub moved : {locals : List Value} {trees : List Tree} {acts : List Act} (h : Doable signatures calls world name locals trees acts) (now : List Value) → AreValuesOf h.scope.locals now → Doable signatures calls world name now trees acts
  moved h now kept =
      record {
        scope = h.scope;
        result = h.result;
        named = h.named;
        typed = h.typed;
        fit = h.fit;
        stands = record { shapes = h.stands.shapes; kept = kept; functions = h.stands.functions; few = h.stands.few };
      }

  act_keeps : {locals : List Value} {trees : List Tree} {acts : List Act} (h : Doable signatures calls world name locals trees acts) (a : Act) → Fits h.scope h.result a → (now : List Value) → Kept h.scope now → (left : ℕ) → Gives (does calls world name a now left) (λ e. Kept h.scope e.0)
  act_keeps h a fits now kept left = all_keep h.scope h.result calls world name h.stands.shapes h.named a fits now kept left

  once_keeps : {locals : List Value} {trees : List Tree} {acts : List Act} (h : Doable signatures calls world name locals trees acts) (a : Act) → Fits h.scope h.result a → (now : List Value) → Kept h.scope now → (left : ℕ) → Gives (once (does calls world name a) now left) (λ e. Kept h.scope e.0)
  once_keeps h a fits now kept left =
      gives_spend left (λ l. and_then (does calls world name a now l) (λ e k. Some ((e.0, ends e.1), k))) (λ (e : List Value × Option Flow). Kept h.scope e.0)
      (λ l. gives_then (does calls world name a now l) (λ e k. Some ((e.0, ends e.1), k)) (λ e. Kept h.scope e.0) (λ (e : List Value × Option Flow). Kept h.scope e.0) (act_keeps h a fits now kept l) (λ e k is. is))

  maybe_keeps : {locals : List Value} {trees : List Tree} (body : Act) (step : Option Act) (h : Doable signatures calls world name locals trees (body ∷ option_to_list step)) (now : List Value) → Kept h.scope now → (left : ℕ) → Gives (step_or_nothing (option_map (does calls world name) step) now left) (λ e. Kept h.scope e.0)
  maybe_keeps body None h now kept left = kept
  maybe_keeps body (Some step) h now kept left = act_keeps h step (h.fit 1 step (omega arith)) now kept left

  turn_keeps : {locals : List Value} {trees : List Tree} (test : Timing Value) (body : Act) (step : Option Act) (h : Doable signatures calls world name locals trees (body ∷ option_to_list step)) (now : List Value) → Kept h.scope now → (left : ℕ) → Gives (turn test (step_or_nothing (option_map (does calls world name) step)) (does calls world name body) now left) (λ e. Kept h.scope e.0)
  turn_keeps test body step h now kept left =
      let next = step_or_nothing (option_map (does calls world name) step) in
      let keeps = λ (e : List Value × Option Flow). Kept h.scope e.0 in
      then_any (test now left)
      (λ t l. pick (test_of t) (and_then (once (does calls world name body) now l) (λ e k. then_step e.1 next e.0 k)) (Some ((now, Some Next), l)) (Some ((now, Some Next), l)))
      keeps
      (λ t l. gives_pick (test_of t) (and_then (once (does calls world name body) now l) (λ e k. then_step e.1 next e.0 k)) (Some ((now, Some Next), l)) (Some ((now, Some Next), l)) keeps
      (gives_then (once (does calls world name body) now l) (λ e k. then_step e.1 next e.0 k) keeps keeps
      (once_keeps h body (h.fit 0 body (omega arith)) now kept l)
      (λ e k is. step_keeps h.scope e.1 next (maybe_keeps body step h) e.0 is k))
      kept kept)

  -- ---- after what was done
  pub act_kept : {locals : List Value} {trees : List Tree} {acts : List Act} (h : Doable signatures calls world name locals trees acts) (a : Act) → Fits h.scope h.result a → (now after : List Value) (flow : Flow) (left k : ℕ) → Kept h.scope now → does calls world name a now left ≡ Some ((after, flow), k) → Kept h.scope after
  act_kept h a fits now after flow left k kept is =
      subst (λ (m : Timed (List Value × Flow)). Gives m (λ e. Kept h.scope e.0)) is (act_keeps h a fits now kept left)

  pub once_kept : {locals : List Value} {trees : List Tree} {acts : List Act} (h : Doable signatures calls world name locals trees acts) (a : Act) → Fits h.scope h.result a → (now after : List Value) (end : Option Flow) (left k : ℕ) → Kept h.scope now → once (does calls world name a) now left ≡ Some ((after, end), k) → Kept h.scope after
  once_kept h a fits now after end left k kept is =
      subst (λ (m : Timed (List Value × Option Flow)). Gives m (λ e. Kept h.scope e.0)) is (once_keeps h a fits now kept left)

  pub turn_kept : {locals : List Value} {trees : List Tree} (test : Timing Value) (body : Act) (step : Option Act) (h : Doable signatures calls world name locals trees (body ∷ option_to_list step)) (now after : List Value) (end : Option Flow) (left k : ℕ) → Kept h.scope now → turn test (step_or_nothing (option_map (does calls world name) step)) (does calls world name body) now left ≡ Some ((after, end), k) → Kept h.scope after
  turn_kept test body step h now after end left k kept is =
      subst (λ (m : Timed (List Value × Option Flow)). Gives m (λ e. Kept h.scope e.0)) is (turn_keeps test body step h now kept left)

  -- a local that counts
  pub count_kept : {locals : List Value} {at : ℕ} {body : Act} (h : EachDoable signatures calls world name locals at body) (now set : List Value) (n : ℕ) → Kept h.doable.scope now → set ≡ slice_set now at (int_value n) → Kept h.doable.scope set
  count_kept {at = at} h now set n kept is =
      subst (Kept h.doable.scope) (sym is)
      (set_kept h.doable.scope.locals now at (int_value n) kept (λ s there. record { leaves = some_back (int_leaf ∷ []) s (sym h.counts ∙ there); filled = int_filled n }))

  -- an assignment, as the statement that it is
  pub assign_kept : {locals : List Value} (to : Target) (right : Tree) (at : Place) (h : Doable signatures calls world name locals [] (act.Assign to right at ∷ [])) (after : List Value) (flow : Flow) (left k : ℕ) → assign calls world to right locals left ≡ Some ((after, flow), k) → Kept h.scope after
  assign_kept {locals} to right at h after flow left k is =
      act_kept h (act.Assign to right at) (All-head (Fits h.scope h.result) (act.Assign to right at) [] h.fit) locals after flow left k h.stands.kept
      (does_assign calls world name to right at locals left ∙ is)

-- an assignment goes on with the next statement
of_path : (f : List Step → List Value) (m : Timed (List Step)) (after : List Value) (flow : Flow) (k : ℕ) → and_then {B = List Value × Flow} m (λ s l. Some ((f s, Next), l)) ≡ Some ((after, flow), k) → flow ≡ Next
of_path f None after flow k h = nothing_there ((after, flow), k) h
of_path f (Some p) after flow k h = sym (ap (λ e. e.0.1) (some_back ((f p.0, Next), p.1) ((after, flow), k) h))

of_right : (calls : Calls) (world : World) (i : ℕ) (locals : List Value) (go : ℕ → Timed (List Step)) (m : Timed Value) (after : List Value) (flow : Flow) (k : ℕ) → and_then {B = List Value × Flow} m (λ v l. and_then {B = List Value × Flow} (go l) (λ s j. Some ((set_local i s v locals, Next), j))) ≡ Some ((after, flow), k) → flow ≡ Next
of_right calls world i locals go None after flow k h = nothing_there ((after, flow), k) h
of_right calls world i locals go (Some p) after flow k h = of_path (λ s. set_local i s p.0 locals) (go p.1) after flow k h

pub assign_next : (calls : Calls) (world : World) (to : Target) (right : Tree) (locals after : List Value) (flow : Flow) (left k : ℕ) → assign calls world to right locals left ≡ Some ((after, flow), k) → flow ≡ Next
assign_next calls world (target.Var v path) right locals after flow left k h = sym (ap (λ e. e.0.1) (some_back ((locals, Next), left) ((after, flow), k) h))
assign_next calls world (target.Slot net slot low width) right locals after flow left k h = sym (ap (λ e. e.0.1) (some_back ((locals, Next), left) ((after, flow), k) h))
assign_next calls world (target.Local i path) right locals after flow left k h =
    of_right calls world i locals (λ l. path_of calls world path locals l) (value_of calls world right locals left) after flow k h

-- ---- measures
pub act_smaller : (acts : List Act) (i : ℕ) (a : Act) → i < length acts → a ≡ get_or acts i a → 4 * act_size a + 3 < 4 * acts_size acts
act_smaller [] i a h e = absurd (omega (arith, h))
act_smaller (b ∷ acts) zero a h e = let s = ap act_size e in omega (arith, s)
act_smaller (b ∷ acts) (suc i) a h e = omega (arith, act_smaller acts i a (omega (arith, h)) e)

pub arm_smaller : (arms : List (List Tree × Act)) (i : ℕ) (arm : List Tree × Act) → i < length arms → arm ≡ get_or arms i arm → act_size arm.1 < arms_size arms
arm_smaller [] i arm h e = absurd (omega (arith, h))
arm_smaller (b ∷ arms) zero arm h e = let s = ap (λ (arm : List Tree × Act). act_size arm.1) e in omega (arith, s)
arm_smaller (b ∷ arms) (suc i) arm h e = omega (arith, arm_smaller arms i arm (omega (arith, h)) e)

pub falls : (part t bound : ℕ) → part < bound → bound ≡ t → part < t
falls part t bound h e = omega (arith, h, e)

-- ---- turns
pub fewer : {A : Type 0} (few left : ℕ) (locals : List Value) (m : Timed (List Value × A)) (r : Result (A × ℕ) Stop) → few < left → Tells few m (with_locals locals r) → IfOk r (λ p. p.1 < left)
fewer few left locals m (Ok p) h t = omega (arith, h, t.1)
fewer few left locals m (Err e) h t = tt

pub fewer_on : (few left : ℕ) (locals : List Value) (m : Timed (List Value × Option Flow)) (r : Result (Option Flow × ℕ) Stop) → few < left → Tells few m (with_locals locals r) → IfOk r (λ p. p.0 ≡ None → p.1 < left)
fewer_on few left locals m (Ok p) h t = λ none. omega (arith, h, t.1)
fewer_on few left locals m (Err e) h t = tt

-- ---- forms that there may be parts of
pub does_if : (calls : Calls) (world : World) (name : ℕ) (test : Tree) (first : Act) (second : Option Act) (at : Place) (locals : List Value) (left : ℕ) → does calls world name (view.If test first second at) locals left ≡ and_then (value_of calls world test locals left) (λ t l. pick (test_of t) (does calls world name first locals l) (or_nothing (option_map (does calls world name) second) locals l) (or_nothing (option_map (does calls world name) second) locals l))
does_if calls world name test first None at locals left = does_if_alone calls world name test first at locals left
does_if calls world name test first (Some second) at locals left = does_if_else calls world name test first second at locals left

pub does_case : (calls : Calls) (world : World) (name : ℕ) (test : Tree) (arms : List (List Tree × Act)) (other : Option Act) (at : Place) (locals : List Value) (left : ℕ) → does calls world name (view.Case test arms other at) locals left ≡ and_then (value_of calls world test locals left) (λ t l. first_arm calls world t (map (λ arm. (arm.0, does calls world name arm.1)) arms) (or_nothing (option_map (does calls world name) other)) locals l)
does_case calls world name test arms None at locals left = does_case_without calls world name test arms at locals left
does_case calls world name test arms (Some other) at locals left = does_case_with calls world name test arms other at locals left

-- ---- the arm of a `case`
abbrev pub maybe_arm : Calls → World → ℕ → Option (List Tree × Act) → Doing
maybe_arm calls world name None = nothing
maybe_arm calls world name (Some arm) = does calls world name arm.1

-- what the arm of this number does, or the default
abbrev pub arm_does : Calls → World → ℕ → List (List Tree × Act) → Option ℕ → Doing → Doing
arm_does calls world name arms None other = other
arm_does calls world name arms (Some i) other = maybe_arm calls world name (slice_get arms i)

arm_later : (calls : Calls) (world : World) (test : Value) (arms : List (List Tree × Act)) (at : ℕ) (locals : List Value) (left : ℕ) → arm_at calls world test arms (suc at) locals left ≡ and_then (arm_at calls world test arms at locals left) (λ o k. Some (option_map suc o, k))
arm_later calls world test [] at locals left =
    arm_none calls world test (suc at) locals left ∙ ap {B = Timed (Option ℕ)} (λ m. and_then m (λ o k. Some (option_map suc o, k))) (sym (arm_none calls world test at locals left))
arm_later calls world test (arm ∷ arms) at locals left =
    arm_more calls world test arm arms (suc at) locals left
    ∙ (by_items (is_among test (map (value_of calls world) arm.0) locals left) (λ l. arm_later calls world test arms (suc at) locals l)
    ∙ ap {B = Timed (Option ℕ)} (λ m. and_then m (λ o k. Some (option_map suc o, k))) (sym (arm_more calls world test arm arms at locals left)))
  where
    by_items : (m : Timed Bool) → ((l : ℕ) → arm_at calls world test arms (suc (suc at)) locals l ≡ and_then (arm_at calls world test arms (suc at) locals l) (λ o k. Some (option_map suc o, k))) → and_then m (λ is l. if is then Some (Some (suc at), l) else arm_at calls world test arms (suc (suc at)) locals l) ≡ and_then (and_then m (λ is l. if is then Some (Some at, l) else arm_at calls world test arms (suc at) locals l)) (λ o k. Some (option_map suc o, k))
    by_items None later = refl
    by_items (Some (true, l)) later = refl
    by_items (Some (false, l)) later = later l

-- the first arm with an item that is the same, done
pub chosen_arm : (calls : Calls) (world : World) (name : ℕ) (test : Value) (arms : List (List Tree × Act)) (other : Doing) (locals : List Value) (left : ℕ) → first_arm calls world test (map (λ arm. (arm.0, does calls world name arm.1)) arms) other locals left ≡ and_then (arm_at calls world test arms 0 locals left) (λ o k. arm_does calls world name arms o other locals k)
chosen_arm calls world name test [] other locals left =
    loops_arm_none calls world test other locals left ∙ ap {B = Timed (List Value × Flow)} (λ m. and_then m (λ o k. arm_does calls world name [] o other locals k)) (sym (arm_none calls world test 0 locals left))
chosen_arm calls world name test (arm ∷ arms) other locals left =
    loops_arm_more calls world test (arm.0, does calls world name arm.1) (map (λ arm. (arm.0, does calls world name arm.1)) arms) other locals left
    ∙ (by_items (is_among test (map (value_of calls world) arm.0) locals left) (λ l. chosen_arm calls world name test arms other locals l) (λ l. arm_later calls world test arms 0 locals l)
    ∙ ap {B = Timed (List Value × Flow)} (λ m. and_then m (λ o k. arm_does calls world name (arm ∷ arms) o other locals k)) (sym (arm_more calls world test arm arms 0 locals left)))
  where
    moved_on : (m : Timed (Option ℕ)) → and_then m (λ o k. arm_does calls world name arms o other locals k) ≡ and_then (and_then m (λ o k. Some (option_map suc o, k))) (λ o k. arm_does calls world name (arm ∷ arms) o other locals k)
    moved_on None = refl
    moved_on (Some (None, k)) = refl
    moved_on (Some (Some i, k)) = refl

    by_items : (m : Timed Bool) → ((l : ℕ) → first_arm calls world test (map (λ arm. (arm.0, does calls world name arm.1)) arms) other locals l ≡ and_then (arm_at calls world test arms 0 locals l) (λ o k. arm_does calls world name arms o other locals k)) → ((l : ℕ) → arm_at calls world test arms 1 locals l ≡ and_then (arm_at calls world test arms 0 locals l) (λ o k. Some (option_map suc o, k))) → and_then m (λ is l. if is then does calls world name arm.1 locals l else first_arm calls world test (map (λ arm. (arm.0, does calls world name arm.1)) arms) other locals l) ≡ and_then (and_then m (λ is l. if is then Some (Some 0, l) else arm_at calls world test arms 1 locals l)) (λ o k. arm_does calls world name (arm ∷ arms) o other locals k)
    by_items None rest later = refl
    by_items (Some (true, l)) rest later = refl
    by_items (Some (false, l)) rest later =
        rest l ∙ (moved_on (arm_at calls world test arms 0 locals l) ∙ ap {B = Timed (List Value × Flow)} (λ m. and_then m (λ o k. arm_does calls world name (arm ∷ arms) o other locals k)) (sym (later l)))

pub last_turn : (left : ℕ) → (left ≡ 0 → ⊥) → left ≡ suc (left - 1)
last_turn zero h = absurd (h refl)
last_turn (suc n) h = omega arith

pub arms_sized : (arms : List (List Tree × Act)) → sum_of (map (λ (arm : List Tree × ℕ). arm.1) (map (λ arm. (arm.0, act_size arm.1)) arms)) ≡ arms_size arms
arms_sized [] = refl
arms_sized (arm ∷ arms) = ap (λ n. suc (act_size arm.1 + n)) (arms_sized arms)

-- the number of an arm is one
arm_below : (calls : Calls) (world : World) (test : Value) (arms : List (List Tree × Act)) (at : ℕ) (locals : List Value) (left i k : ℕ) → arm_at calls world test arms at locals left ≡ Some (Some i, k) → i < at + length arms
arm_below calls world test [] at locals left i k h = nothing_there i (ap (λ q. q.0) (some_back (None, left) (Some i, k) (sym (arm_none calls world test at locals left) ∙ h)))
arm_below calls world test (arm ∷ arms) at locals left i k h =
    by_items (is_among test (map (value_of calls world) arm.0) locals left) (λ l e. arm_below calls world test arms (suc at) locals l i k e) (sym (arm_more calls world test arm arms at locals left) ∙ h)
  where
    by_items : (m : Timed Bool) → ((l : ℕ) → arm_at calls world test arms (suc at) locals l ≡ Some (Some i, k) → i < suc at + length arms) → and_then m (λ is l. if is then Some (Some at, l) else arm_at calls world test arms (suc at) locals l) ≡ Some (Some i, k) → i < at + suc (length arms)
    by_items None later e = nothing_there (Some i, k) e
    by_items (Some (true, l)) later e = let is = some_back at i (ap (λ q. q.0) (some_back (Some at, l) (Some i, k) e)) in omega (arith, is)
    by_items (Some (false, l)) later e = let less = later l e in omega (arith, less)

pub arm_inside : (calls : Calls) (world : World) (test : Value) (arms : List (List Tree × Act)) (locals : List Value) (left i k : ℕ) → arm_at calls world test arms 0 locals left ≡ Some (Some i, k) → i < length arms
arm_inside calls world test arms locals left i k h = let less = arm_below calls world test arms 0 locals left i k h in omega (arith, less)

module _ {signatures : List (Option Signature)} {calls : Calls} {world : World} {name : ℕ} {locals : List Value} where
  pub case_typed : (test : Tree) (arms : List (List Tree × Act)) (other : Option Act) → CaseDoable signatures calls world name locals test arms other → Typed signatures calls world locals test
  case_typed test arms other h = record { scope = h.scope; stands = h.stands; shape = h.shape; is = h.typed }

  pub case_alike : (test : Tree) (arms : List (List Tree × Act)) (other : Option Act) → CaseDoable signatures calls world name locals test arms other → (v : Value) (left l : ℕ) → value_of calls world test locals left ≡ Some (v, l) → ArmsAlike signatures calls world locals v arms
  case_alike test arms other h v left l is =
      record {
        scope = h.scope;
        stands = h.stands;
        same = λ i arm at j item there.
            let items = subst (λ (arm : List Tree × Act). All (λ item. tree_shape h.scope item ≡ Some h.shape) arm.0) (got_or arms i arm at) (h.items i arm (inside_of arms i arm at)) in
            let one = subst (λ item. tree_shape h.scope item ≡ Some h.shape) (got_or arm.0 j item there) (items j item (inside_of arm.0 j item there)) in
            one ∙ ap Some (sym (has test (record { scope = h.scope; stands = h.stands; shape = h.shape; is = h.typed }) left v l is).leaves);
      }
