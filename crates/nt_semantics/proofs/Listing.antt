-- Ready lists stay right in phase Evaluate.
use Rattle.std.proofs.Common.{◌≡◌, ℕ, zero, suc, nat_lt, Bool, true, false, not, ◌&&◌, ◌||◌, if◌then◌else◌, List, [], ◌∷◌, ◌++◌, filter, replicate, Option, Some, None, option_and_then, refl, sym, ◌∙◌, ap, arith, get_or-set_other}
use Rattle.std.proofs.lemmas.Bool.{false≢true, eq-eqb, eqb-true, ltb-false}
use Rattle.nt_design.specs.declared.design.Design.{Design}
use Rattle.nt_semantics.specs.Execution.{enter, steps, copies, is_entry, if_some}
use Rattle.nt_semantics.specs.Groups.{processes, is_among, is_same_process}
use Rattle.nt_semantics.specs.Rounds.{Away, PhaseEnd, TooLong, phase, is_ready, stands_ready, is_waiting, is_woken, with_new, woken, without_evaluations, entry_of, next_ready, away_after, marks_of, and_before, stops}
use Rattle.nt_semantics.specs.State.{MachineState, standing_at, count_at}
use Rattle.nt_semantics.specs.declared.standing.Standing.{Standing}
use Rattle.nt_semantics.specs.declared.standing.Standing.TheVariants.{Unbegun, Ready, Inactive, Later, Waits, Over}
use Rattle.nt_semantics.specs.Step.{step, only_if}
use Rattle.nt_semantics.specs.declared.event.Event.{Event}
use Rattle.nt_semantics.specs.declared.event.Event.TheVariants.{Stmt, Assign as AssignEvent}
use Rattle.nt_semantics.specs.declared.process.Process.{Process}
use Rattle.nt_semantics.specs.declared.process.Process.TheVariants.{Procedure, Assignment}
use Rattle.nt_semantics.specs.ReadyLists.{Listed}
use Rattle.nt_semantics.specs.Laws.{PhaseKeepsLists}
use Rattle.nt_semantics.specs.ReadyLists.{is_live, IsOther}
use Rattle.nt_semantics.proofs.Waking.{others_wake}

none_some : {A : Type 0} (x : A) → None ≡ Some x → ⊥
none_some x h = cc

pub or_left : (a b : Bool) → a ≡ true → (a || b) ≡ true
or_left true b h = refl
or_left false b h = absurd (false≢true h)

pub or_right : (a b : Bool) → b ≡ true → (a || b) ≡ true
or_right true b h = refl
or_right false b h = h

-- ---- lists of processes
pub same_is : (x y : Process) → is_same_process x y ≡ true → x ≡ y
same_is (Procedure p) (Procedure q) h = ap (λ n. Procedure n) (eqb-true p q h)
same_is (Assignment a) (Assignment b) h = ap (λ n. Assignment n) (eqb-true a b h)
same_is (Procedure p) (Assignment a) h = absurd (false≢true h)
same_is (Assignment a) (Procedure p) h = absurd (false≢true h)

pub among_left : (xs ys : List Process) (y : Process) → is_among xs y ≡ true → is_among (xs ++ ys) y ≡ true
among_left [] ys y h = absurd (false≢true h)
among_left (x ∷ xs) ys y h = of_same (among_left xs ys y) (is_same_process y x) h
  where
    of_same : (is_among xs y ≡ true → is_among (xs ++ ys) y ≡ true) → (b : Bool) → (b || is_among xs y) ≡ true → (b || is_among (xs ++ ys) y) ≡ true
    of_same rest true h = refl
    of_same rest false h = rest h

pub among_right : (xs ys : List Process) (y : Process) → is_among ys y ≡ true → is_among (xs ++ ys) y ≡ true
among_right [] ys y h = h
among_right (x ∷ xs) ys y h = or_right (is_same_process y x) (is_among (xs ++ ys) y) (among_right xs ys y h)

pub among_filter : (f : Process → Bool) (xs : List Process) (y : Process) → f y ≡ true → is_among xs y ≡ true → is_among (filter f xs) y ≡ true
among_filter f [] y keeps h = h
among_filter f (x ∷ xs) y keeps h = of_same (among_filter f xs y keeps) (is_same_process y x) refl h
  where
    kept : (b : Bool) → is_among (filter f xs) y ≡ true → is_among (if b then x ∷ filter f xs else filter f xs) y ≡ true
    kept true rest = or_right (is_same_process y x) (is_among (filter f xs) y) rest
    kept false rest = rest

    here : (b : Bool) → b ≡ true → is_same_process y x ≡ true → is_among (if b then x ∷ filter f xs else filter f xs) y ≡ true
    here true is same = or_left (is_same_process y x) (is_among (filter f xs) y) same
    here false is same = absurd (false≢true is)

    of_same : (is_among xs y ≡ true → is_among (filter f xs) y ≡ true) → (b : Bool) → is_same_process y x ≡ b → (b || is_among xs y) ≡ true → is_among (if f x then x ∷ filter f xs else filter f xs) y ≡ true
    of_same rest true same g = here (f x) (sym (ap f (same_is y x same)) ∙ keeps) same
    of_same rest false same g = kept (f x) (rest g)

pub old_among : (xs ys : List Process) (y : Process) → is_among xs y ≡ true → is_among (with_new xs ys) y ≡ true
old_among xs ys y h = among_left xs (filter (λ z. not (is_among xs z)) ys) y h

pub new_among : (xs ys : List Process) (y : Process) → is_among ys y ≡ true → is_among (with_new xs ys) y ≡ true
new_among xs ys y h = of_old (is_among xs y) refl
  where
    of_old : (b : Bool) → is_among xs y ≡ b → is_among (with_new xs ys) y ≡ true
    of_old true is = old_among xs ys y is
    of_old false is = among_right xs (filter (λ z. not (is_among xs z)) ys) y (among_filter (λ z. not (is_among xs z)) ys y (ap not is) h)

-- ---- an entry
pub steps_live : (d : Design) (e : Event) (k : ℕ) (s t : MachineState) (p : ℕ) → IsOther p e → steps d (replicate k e) s ≡ Some t → is_live (standing_at t p) ≡ true → is_live (standing_at s p) ≡ true
steps_live d e zero s t p other h live = ap (λ o. if_some (is_live (standing_at s p)) (λ x. is_live (standing_at x p)) o) h ∙ live
steps_live d e (suc k) s t p other h live = of_step (λ u. steps_live d e k u t p other) (step d s e) refl h
  where
    of_step : ((u : MachineState) → steps d (replicate k e) u ≡ Some t → is_live (standing_at t p) ≡ true → is_live (standing_at u p) ≡ true) → (o : Option MachineState) → step d s e ≡ o → option_and_then (steps d (replicate k e)) o ≡ Some t → is_live (standing_at s p) ≡ true
    of_step go None is g = absurd (none_some t g)
    of_step go (Some u) is g = others_wake d s u e p other is (go u g live)

pub entered : (b : Bool) (o : Option MachineState) (t : MachineState) → only_if b o ≡ Some t → o ≡ Some t
entered true o t h = h
entered false o t h = absurd (none_some t h)

pub ready_live : (standing : Standing) → stands_ready standing ≡ true → is_live standing ≡ true
ready_live Ready h = refl
ready_live Unbegun h = absurd (false≢true h)
ready_live Inactive h = absurd (false≢true h)
ready_live (Later at) h = absurd (false≢true h)
ready_live (Waits kept) h = absurd (false≢true h)
ready_live Over h = absurd (false≢true h)

pub live_waits : (standing : Standing) → is_live standing ≡ true → stands_ready standing ≡ false → is_waiting standing ≡ true
live_waits Ready h not_ready = absurd (false≢true (sym not_ready))
live_waits (Waits kept) h not_ready = refl
live_waits Unbegun h not_ready = absurd (false≢true h)
live_waits Inactive h not_ready = absurd (false≢true h)
live_waits (Later at) h not_ready = absurd (false≢true h)
live_waits Over h not_ready = absurd (false≢true h)

pub both : (a b : Bool) → a ≡ true → b ≡ true → (a && b) ≡ true
both true b h k = k
both false b h k = absurd (false≢true h)

pub none_pending : (n : ℕ) → nat_lt 0 n ≡ false → n ≡ 0
none_pending n h = omega (arith, ltb-false 0 n h)

module _ (d : Design) (s t : MachineState) (x : Process) (enters : enter d s (entry_of d s x) ≡ Some t) where
  after : steps d (copies (entry_of d s x)) s ≡ Some t
  after = entered (is_entry d (entry_of d s x)) (steps d (copies (entry_of d s x)) s) t enters

  -- what became ready was woken
  became : (y : Process) → is_same_process y x ≡ false → is_ready s y ≡ false → is_ready t y ≡ true → is_woken (without_evaluations s x (entry_of d s x).count) t y ≡ true
  became y other before now = of_process x y other before now after
    where
      of_process : (x y : Process) → is_same_process y x ≡ false → is_ready s y ≡ false → is_ready t y ≡ true → steps d (copies (entry_of d s x)) s ≡ Some t → is_woken (without_evaluations s x (entry_of d s x).count) t y ≡ true
      of_process (Procedure q) (Procedure p) other before now run =
          both (is_waiting (standing_at s p)) (stands_ready (standing_at t p)) (live_waits (standing_at s p) (steps_live d (Stmt q) 1 s t p (λ e. false≢true (sym other ∙ eq-eqb p q (sym e))) run (ready_live (standing_at t p) now)) before) now
      of_process (Assignment a) (Procedure p) other before now run =
          both (is_waiting (standing_at s p)) (stands_ready (standing_at t p)) (live_waits (standing_at s p) (steps_live d (AssignEvent a) (entry_of d s (Assignment a)).count s t p tt run (ready_live (standing_at t p) now)) before) now
      of_process (Procedure q) (Assignment b) other before now run =
          ap (λ n. nat_lt n (count_at t.evaluations b)) (none_pending (count_at s.evaluations b) before) ∙ now
      of_process (Assignment a) (Assignment b) other before now run =
          ap (λ n. nat_lt n (count_at t.evaluations b)) (get_or-set_other s.evaluations a b _ 0 (λ e. false≢true (sym other ∙ eq-eqb b a e)) ∙ none_pending (count_at s.evaluations b) before) ∙ now

  pub listed_next : (xs : List Process) → Listed d s (x ∷ xs) → Listed d t (next_ready d s t x xs)
  listed_next xs listed y there now = of_own (is_same_process y x) refl
    where
      first : List Process
      first = with_new xs (woken d (without_evaluations s x (entry_of d s x).count) t)

      of_before : (b : Bool) → is_ready s y ≡ b → is_same_process y x ≡ false → is_among first y ≡ true
      of_before true was other = old_among xs (woken d (without_evaluations s x (entry_of d s x).count) t) y (ap (λ b. b || is_among xs y) (sym other) ∙ listed y there was)
      of_before false was other = new_among xs (woken d (without_evaluations s x (entry_of d s x).count) t) y (among_filter (is_woken (without_evaluations s x (entry_of d s x).count) t) (processes d) y (became y other was now) there)

      of_own : (b : Bool) → is_same_process y x ≡ b → is_among (next_ready d s t x xs) y ≡ true
      of_own true same = new_among first (filter (is_ready t) (x ∷ [])) y (among_filter (is_ready t) (x ∷ []) y now (or_left (is_same_process y x) false same))
      of_own false other = old_among first (filter (is_ready t) (x ∷ [])) y (of_before (is_ready s y) refl other)

-- ---- a phase
-- what each entry keeps of a state and a list, a phase keeps
module _ (d : Design) (K : MachineState → List Process → Type 0) (next : (s t : MachineState) (x : Process) (xs : List Process) → enter d s (entry_of d s x) ≡ Some t → K s (x ∷ xs) → K t (next_ready d s t x xs)) where
  pub phase_keeps : (n : ℕ) (s : MachineState) (xs : List Process) (away : Away) → K s xs → K (phase n d s xs away).state (phase n d s xs away).ready
  unfolding phase
  phase_keeps n s [] away kept = kept
  phase_keeps zero s (x ∷ xs) away kept = kept
  phase_keeps (suc n) s (x ∷ xs) away kept =
      of_entry (λ t. phase_keeps n t (next_ready d s t x xs) (away_after t x away)) (enter d s (entry_of d s x)) refl
    where
      end_of : Option MachineState → PhaseEnd
      end_of o = if_some (stops s (x ∷ xs) away (TooLong (entry_of d s x).event)) (λ t. and_before (entry_of d s x) (marks_of d s t x) (phase n d t (next_ready d s t x xs) (away_after t x away))) o

      of_entry : ((t : MachineState) → K t (next_ready d s t x xs) → K (phase n d t (next_ready d s t x xs) (away_after t x away)).state (phase n d t (next_ready d s t x xs) (away_after t x away)).ready) → (o : Option MachineState) → enter d s (entry_of d s x) ≡ o → K (end_of o).state (end_of o).ready
      of_entry go None is = kept
      of_entry go (Some t) is = go t (next s t x xs is kept)

pub phase_listed : PhaseKeepsLists
phase_listed n d s xs away listed =
    phase_keeps d (Listed d) (λ s t x xs is. listed_next d s t x is xs) n s xs away listed
