-- A ready list goes on holding just the processes that have an event in Active, each once.
use Rattle.std.proofs.Common.{◌≡◌, inl, inr, ℕ, zero, suc, ◌+◌, ◌<◌, ◌≤◌, nat_lt, Bool, true, false, ◌&&◌, if◌then◌else◌, List, [], ◌∷◌, length, filter, get_or, replicate, Option, Some, None, option_and_then, refl, sym, ◌∙◌, ap, subst, arith, get_or-set_other}
use Rattle.std.proofs.lemmas.Bool.{false≢true, eq-eqb, ltb-true, lt-ltb}
use Rattle.std.proofs.lemmas.List.{get_or_past}
use Rattle.std.proofs.lemmas.Option.{same_Some}
use Rattle.nt_design.specs.WellFormed.{IsDesign}
use Rattle.nt_design.specs.declared.design.Design.{Design}
use Rattle.nt_semantics.proofs.Begun.{step_begun}
use Rattle.nt_semantics.proofs.Counting.{among_times, assign_once, proc_once, same_self, times_filter, times_new}
use Rattle.nt_semantics.proofs.Lasting.{NoEvaluation, begins_last, evaluations_last}
use Rattle.nt_semantics.proofs.Listing.{entered, none_pending, same_is}
use Rattle.nt_semantics.proofs.StepKeeps.{steps_keep}
use Rattle.nt_semantics.proofs.Waking.{lt_or_le, none_some, others_stand}
use Rattle.nt_semantics.specs.Execution.{copies, enter, is_entry, steps}
use Rattle.nt_semantics.specs.Groups.{processes, is_among, is_same_process}
use Rattle.nt_semantics.specs.ReadyLists.{AllUnbegun, Holds, IsOther, StandsOn, is_held, is_live, one_if, stands_listed, times}
use Rattle.nt_semantics.specs.Rounds.{combs, entry_of, is_ready, is_waiting, is_woken, next_ready, stands_ready, with_new, without_evaluations, woken}
use Rattle.nt_semantics.specs.State.{MachineState, count_at, standing_at}
use Rattle.nt_semantics.specs.StateFits.{IsStateOf}
use Rattle.nt_semantics.specs.Step.{may_begin, step}
use Rattle.nt_semantics.specs.declared.event.Event.{Event}
use Rattle.nt_semantics.specs.declared.event.Event.TheVariants.{Stmt, Assign as AssignEvent, Resolve}
use Rattle.nt_semantics.specs.declared.process.Process.{Process}
use Rattle.nt_semantics.specs.declared.process.Process.TheVariants.{Procedure, Assignment}
use Rattle.nt_semantics.specs.declared.standing.Standing.{Standing}
use Rattle.nt_semantics.specs.declared.standing.Standing.TheVariants.{Unbegun, Ready, Inactive, Later, Waits, Over}

-- ---- where a procedure stands
stands_then : (a b c : Standing) → StandsOn a b → StandsOn b c → StandsOn a c
stands_then a b c (inl same) second = subst (λ x. StandsOn x c) same second
stands_then a b c (inr woke) (inl same) = inr (woke.0, ap is_live same ∙ woke.1)
stands_then a b c (inr woke) (inr later) = inr (woke.0, later.1)

steps_stand : (d : Design) (e : Event) (k : ℕ) (s t : MachineState) (p : ℕ) → IsOther p e → steps d (replicate k e) s ≡ Some t → StandsOn (standing_at s p) (standing_at t p)
steps_stand d e zero s t p other h = inl (ap (λ (u : MachineState). standing_at u p) (sym (same_Some s t h)))
steps_stand d e (suc k) s t p other h = of_step (λ u. steps_stand d e k u t p other) (step d s e) refl h
  where
    of_step : ((u : MachineState) → steps d (replicate k e) u ≡ Some t → StandsOn (standing_at u p) (standing_at t p)) → (o : Option MachineState) → step d s e ≡ o → option_and_then (steps d (replicate k e)) o ≡ Some t → StandsOn (standing_at s p) (standing_at t p)
    of_step rest None is g = absurd (none_some t g)
    of_step rest (Some u) is g =
        stands_then (standing_at s p) (standing_at u p) (standing_at t p) (others_stand d s u e p other is) (rest u g)

listed_stays : (b : Bool) (a c : Standing) → StandsOn a c → stands_listed b a ≡ true → stands_listed b c ≡ true
listed_stays b a c (inl same) h = ap (stands_listed b) same ∙ h
listed_stays b a c (inr woke) h = absurd (of_waiting a woke.0 h)
  where
    of_waiting : (a : Standing) → is_waiting a ≡ true → stands_listed b a ≡ true → ⊥
    of_waiting (Waits kept) w g = false≢true g
    of_waiting Unbegun w g = false≢true w
    of_waiting Ready w g = false≢true w
    of_waiting Inactive w g = false≢true w
    of_waiting (Later at) w g = false≢true w
    of_waiting Over w g = false≢true w

-- what wasn't listed is woken exactly where it is to be listed
listed_woken : (b : Bool) (a c : Standing) → StandsOn a c → stands_listed b a ≡ false → (is_waiting a && stands_ready c) ≡ stands_listed b c
listed_woken b a c (inl same) h =
    subst (λ x. (is_waiting a && stands_ready x) ≡ stands_listed b x) (sym same) (alone a h)
  where
    alone : (a : Standing) → stands_listed b a ≡ false → (is_waiting a && stands_ready a) ≡ stands_listed b a
    alone (Waits kept) g = refl
    alone Unbegun g = sym g
    alone Ready g = absurd (false≢true (sym g))
    alone Inactive g = refl
    alone (Later at) g = refl
    alone Over g = refl
listed_woken b a c (inr woke) h = ap (λ w. w && stands_ready c) woke.0 ∙ of_live c woke.1
  where
    of_live : (c : Standing) → is_live c ≡ true → stands_ready c ≡ stands_listed b c
    of_live Ready l = refl
    of_live (Waits kept) l = refl
    of_live Unbegun l = absurd (false≢true l)
    of_live Inactive l = absurd (false≢true l)
    of_live (Later at) l = absurd (false≢true l)
    of_live Over l = absurd (false≢true l)

-- a procedure that waits, or is listed, is one of the state
waiting_there : (s : MachineState) (p : ℕ) → is_waiting (standing_at s p) ≡ true → p < length s.standings
waiting_there s p h = elim (lt_or_le p (length s.standings)) [
  | inl low ↦ low
  | inr past ↦ absurd (false≢true (ap is_waiting (sym (get_or_past s.standings p Over past)) ∙ h))
]

pub count_there : (counts : List ℕ) (a : ℕ) → nat_lt 0 (count_at counts a) ≡ true → a < length counts
count_there counts a h = elim (lt_or_le a (length counts)) [
  | inl low ↦ low
  | inr past ↦ absurd (false≢true (ap (nat_lt 0) (sym (get_or_past counts a 0 past)) ∙ h))
]

-- ---- a process and an event of another, or of none
-- s is the state before, and from the one from which it is told what was woken
pub record Follows (d : Design) (b : Bool) (s from t : MachineState) (y : Process) : Type 0 where
  pub stays : is_held b s y ≡ true → is_held b t y ≡ true
  pub woke : is_held b s y ≡ false → is_woken from t y ≡ is_held b t y
  pub there : is_woken from t y ≡ true → times (is_same_process y) (processes d) ≡ 1

both_first : (a b : Bool) → (a && b) ≡ true → a ≡ true
both_first true b h = refl
both_first false b h = absurd (false≢true h)

proc_follows : (d : Design) (b : Bool) (s from t : MachineState) (p : ℕ) → from.standings ≡ s.standings → IsStateOf d s → StandsOn (standing_at s p) (standing_at t p) → Follows d b s from t (Procedure p)
proc_follows d b s from t p same fits stands = record {
  stays = listed_stays b (standing_at s p) (standing_at t p) stands;
  woke = λ h. ap (λ x. is_waiting x && stands_ready (standing_at t p)) same_here ∙ listed_woken b (standing_at s p) (standing_at t p) stands h;
  there = λ h. proc_once d p (omega (arith, waiting_there s p (ap is_waiting (sym same_here) ∙ both_first (is_waiting (standing_at from p)) (stands_ready (standing_at t p)) h), fits.standings));
}
  where
    same_here : standing_at from p ≡ standing_at s p
    same_here = ap (λ (l : List Standing). get_or l p Over) same

assign_follows : (d : Design) (b : Bool) (s from t : MachineState) (a : ℕ) → count_at from.evaluations a ≡ count_at s.evaluations a → IsStateOf d t → count_at s.evaluations a ≤ count_at t.evaluations a → Follows d b s from t (Assignment a)
assign_follows d b s from t a same fits lasts = record {
  stays = λ h. lt-ltb 0 (count_at t.evaluations a) (omega (arith, ltb-true 0 (count_at s.evaluations a) h, lasts));
  woke = λ h. ap (λ n. nat_lt n (count_at t.evaluations a)) (same ∙ none_pending (count_at s.evaluations a) h);
  there = λ h. assign_once d a (omega (arith, count_there t.evaluations a (lt-ltb 0 (count_at t.evaluations a) (omega (arith, ltb-true (count_at from.evaluations a) (count_at t.evaluations a) h))), fits.evaluations));
}

none_before : (n : ℕ) → 0 + n ≡ n
none_before n = omega arith

-- what such an event leaves of the list: what is new is behind it
pub held_next : (d : Design) (b : Bool) (s from t : MachineState) (y : Process) (xs : List Process) → Follows d b s from t y → times (is_same_process y) xs ≡ one_if (is_held b s y) → times (is_same_process y) (with_new xs (woken d from t)) ≡ one_if (is_held b t y)
held_next d b s from t y xs follows before =
    times_new y xs (woken d from t) ∙ of_held (is_held b s y) refl
  where
    among_is : is_among xs y ≡ nat_lt 0 (one_if (is_held b s y))
    among_is = among_times y xs ∙ ap (nat_lt 0) before

    news : times (is_same_process y) (woken d from t) ≡ one_if (is_woken from t y)
    news = times_filter (is_woken from t) y (processes d) ∙ of_woken (is_woken from t y) refl
      where
        of_woken : (w : Bool) → is_woken from t y ≡ w → (if w then times (is_same_process y) (processes d) else 0) ≡ one_if w
        of_woken true is = follows.there is
        of_woken false is = refl

    of_held : (h : Bool) → is_held b s y ≡ h → times (is_same_process y) xs + (if is_among xs y then 0 else times (is_same_process y) (woken d from t)) ≡ one_if (is_held b t y)
    of_held true is =
        rw (before, among_is, is) (ap one_if (sym (follows.stays is)))
    of_held false is =
        rw (before, among_is, is) (none_before (times (is_same_process y) (woken d from t)) ∙ news ∙ ap one_if (follows.woke is))

-- ---- an entry of phase Evaluate
-- what is right of a state and a list within a round: the list holds what it has to; where `always_comb` are on it they may
-- begin, and else none has; and the state is one of the design
pub record Kept (d : Design) (b : Bool) (s : MachineState) (xs : List Process) : Type 0 where
  pub holds : Holds b s xs
  pub begins : b ≡ true → may_begin s ≡ true
  pub waiting : b ≡ false → AllUnbegun s (combs d)
  pub fits : IsStateOf d s

abbrev one_of : Bool → Bool → ℕ
one_of keeps same = if keeps then (if same then 1 else 0) else 0

one_of_none : (keeps : Bool) → one_of keeps false ≡ 0
one_of_none true = refl
one_of_none false = refl

one_of_one : (keeps : Bool) → one_of keeps true ≡ one_if keeps
one_of_one true = refl
one_of_one false = refl

-- the process itself: woken by its own event, or on the list again where it is still ready
record Own (d : Design) (b : Bool) (s t : MachineState) (x : Process) : Type 0 where
  woke : is_woken (without_evaluations s x (entry_of d s x).count) t x ≡ true → (is_held b t x ≡ true) × (times (is_same_process x) (processes d) ≡ 1)
  ready : is_held b t x ≡ is_ready t x

module _ (d : Design) (design : IsDesign d) (b : Bool) (s t : MachineState) (x : Process) (xs : List Process) (enters : enter d s (entry_of d s x) ≡ Some t) (kept : Kept d b s (x ∷ xs)) where
  run : steps d (copies (entry_of d s x)) s ≡ Some t
  run = entered (is_entry d (entry_of d s x)) (steps d (copies (entry_of d s x)) s) t enters

  fits_then : IsStateOf d t
  fits_then = steps_keep d (copies (entry_of d s x)) s t design kept.fits run

  abbrev from : MachineState
  from = without_evaluations s x (entry_of d s x).count

  follows : (y : Process) → is_same_process y x ≡ false → Follows d b s from t y
  follows y other = of_process x y other run
    where
      of_process : (x y : Process) → is_same_process y x ≡ false → steps d (copies (entry_of d s x)) s ≡ Some t → Follows d b s (without_evaluations s x (entry_of d s x).count) t y
      of_process (Procedure q) (Procedure p) other r =
          proc_follows d b s s t p refl kept.fits (steps_stand d (Stmt q) 1 s t p (λ e. false≢true (sym other ∙ eq-eqb p q (sym e))) r)
      of_process (Assignment a) (Procedure p) other r =
          proc_follows d b s (without_evaluations s (Assignment a) (entry_of d s (Assignment a)).count) t p refl kept.fits (steps_stand d (AssignEvent a) (entry_of d s (Assignment a)).count s t p tt r)
      of_process (Procedure q) (Assignment c) other r =
          assign_follows d b s s t c refl fits_then (evaluations_last d (Stmt q) 1 s t c tt r)
      of_process (Assignment a) (Assignment c) other r =
          let apart : c ≡ a → ⊥ = λ e. false≢true (sym other ∙ eq-eqb c a e) in
          assign_follows d b s (without_evaluations s (Assignment a) (entry_of d s (Assignment a)).count) t c (get_or-set_other s.evaluations a c _ 0 apart) fits_then (evaluations_last d (AssignEvent a) (entry_of d s (Assignment a)).count s t c apart r)

  -- the process itself stands nowhere behind its place
  at_head : (1 + times (is_same_process x) xs) ≡ one_if (is_held b s x)
  at_head =
      ap (λ c. if c then 1 + times (is_same_process x) xs else times (is_same_process x) xs) (sym (same_self x)) ∙ kept.holds x

  at_most : (c : Bool) → one_if c ≤ 1
  at_most true = omega arith
  at_most false = omega arith

  isnt_behind : times (is_same_process x) xs ≡ 0
  isnt_behind = omega (arith, at_head, at_most (is_held b s x))

  was_held : is_held b s x ≡ true
  was_held = of_held (is_held b s x) refl
    where
      of_held : (c : Bool) → is_held b s x ≡ c → is_held b s x ≡ true
      of_held true is = is
      of_held false is = absurd (omega (arith, at_head, ap one_if is))

  abbrev first : List Process
  first = with_new xs (woken d from t)

  abbrev last : List Process
  last = filter (is_ready t) (x ∷ [])

  own : Own d b s t x
  own = of_process x was_held run
    where
      listed_awake : (a : Standing) → stands_listed b a ≡ true → is_waiting a ≡ false
      listed_awake (Waits k) h = absurd (false≢true h)
      listed_awake Unbegun h = refl
      listed_awake Ready h = refl
      listed_awake Inactive h = refl
      listed_awake (Later at) h = refl
      listed_awake Over h = refl

      begun_ready : (a : Standing) → (a ≡ Unbegun → ⊥) → stands_listed b a ≡ stands_ready a
      begun_ready (Waits k) h = refl
      begun_ready Unbegun h = absurd (h refl)
      begun_ready Ready h = refl
      begun_ready Inactive h = refl
      begun_ready (Later at) h = refl
      begun_ready Over h = refl

      one_step : (p : ℕ) (o : Option MachineState) → step d s (Stmt p) ≡ o → option_and_then (steps d []) o ≡ Some t → step d s (Stmt p) ≡ Some t
      one_step p None is g = absurd (none_some t g)
      one_step p (Some v) is g = is ∙ g

      of_process : (x : Process) → is_held b s x ≡ true → steps d (copies (entry_of d s x)) s ≡ Some t → Own d b s t x
      of_process (Procedure p) held r = record {
        woke = λ w. absurd (false≢true (sym (ap (λ c. c && stands_ready (standing_at t p)) (listed_awake (standing_at s p) held)) ∙ w));
        ready = begun_ready (standing_at t p) (step_begun d p s t (one_step p (step d s (Stmt p)) refl r));
      }
      of_process (Assignment a) held r = record {
        woke = λ w. let some = lt-ltb 0 (count_at t.evaluations a) (omega (arith, ltb-true (count_at (without_evaluations s (Assignment a) (entry_of d s (Assignment a)).count).evaluations a) (count_at t.evaluations a) w)) in (some, assign_once d a (omega (arith, count_there t.evaluations a some, fits_then.evaluations)));
        ready = refl;
      }

  last_is : (y : Process) → times (is_same_process y) last ≡ one_of (is_ready t y) (is_same_process y x)
  last_is y = times_filter (is_ready t) y (x ∷ [])

  other_next : (y : Process) → is_same_process y x ≡ false → times (is_same_process y) (next_ready d s t x xs) ≡ one_if (is_held b t y)
  other_next y other =
      times_new y first last ∙ added (is_among first y) ∙ held_next d b s from t y xs (follows y other) before
    where
      before : times (is_same_process y) xs ≡ one_if (is_held b s y)
      before =
          ap (λ c. if c then 1 + times (is_same_process y) xs else times (is_same_process y) xs) (sym other) ∙ kept.holds y

      none_last : times (is_same_process y) last ≡ 0
      none_last =
          last_is y ∙ ap (one_of (is_ready t y)) other ∙ one_of_none (is_ready t y)

      added : (c : Bool) → times (is_same_process y) first + (if c then 0 else times (is_same_process y) last) ≡ times (is_same_process y) first
      added true = omega arith
      added false = omega (arith, none_last)

  own_next : times (is_same_process x) (next_ready d s t x xs) ≡ one_if (is_held b t x)
  own_next = times_new x first last ∙ of_woken (is_woken from t x) refl
    where
      first_is : times (is_same_process x) first ≡ (if is_woken from t x then times (is_same_process x) (processes d) else 0)
      first_is =
          times_new x xs (woken d from t) ∙ ap (λ c. times (is_same_process x) xs + (if c then 0 else times (is_same_process x) (woken d from t))) (among_times x xs ∙ ap (nat_lt 0) isnt_behind) ∙ ap (λ n. n + times (is_same_process x) (woken d from t)) isnt_behind ∙ none_before (times (is_same_process x) (woken d from t)) ∙ times_filter (is_woken from t) x (processes d)

      of_ready : (c : Bool) → is_ready t x ≡ c → times (is_same_process x) last ≡ one_if c
      of_ready c is =
          last_is x ∙ ap (one_of (is_ready t x)) (same_self x) ∙ one_of_one (is_ready t x) ∙ ap one_if is

      of_woken : (w : Bool) → is_woken from t x ≡ w → times (is_same_process x) first + (if is_among first x then 0 else times (is_same_process x) last) ≡ one_if (is_held b t x)
      of_woken true is =
          let one : times (is_same_process x) first ≡ 1 = first_is ∙ ap (λ w. if w then times (is_same_process x) (processes d) else 0) is ∙ (own.woke is).1 in
          ap (λ c. times (is_same_process x) first + (if c then 0 else times (is_same_process x) last)) (among_times x first ∙ ap (nat_lt 0) one) ∙ omega (arith, one) ∙ ap one_if (sym (own.woke is).0)
      of_woken false is =
          let none : times (is_same_process x) first ≡ 0 = first_is ∙ ap (λ w. if w then times (is_same_process x) (processes d) else 0) is in
          ap (λ c. times (is_same_process x) first + (if c then 0 else times (is_same_process x) last)) (among_times x first ∙ ap (nat_lt 0) none) ∙ omega (arith, none) ∙ of_ready (is_ready t x) refl ∙ ap one_if (sym own.ready)

  holds_next : Holds b t (next_ready d s t x xs)
  holds_next y = of_own (is_same_process y x) refl
    where
      of_own : (c : Bool) → is_same_process y x ≡ c → times (is_same_process y) (next_ready d s t x xs) ≡ one_if (is_held b t y)
      of_own false other = other_next y other
      of_own true same =
          subst (λ z. times (is_same_process z) (next_ready d s t x xs) ≡ one_if (is_held b t z)) (sym (same_is y x same)) own_next

  waiting_next : b ≡ false → AllUnbegun t (combs d)
  waiting_next isnt p among = of_process x was_held run
    where
      before : standing_at s p ≡ Unbegun
      before = kept.waiting isnt p among

      moved_on : StandsOn (standing_at s p) (standing_at t p) → standing_at t p ≡ Unbegun
      moved_on (inl same) = same ∙ before
      moved_on (inr w) = absurd (false≢true (ap is_waiting (sym before) ∙ w.0))

      of_process : (x : Process) → is_held b s x ≡ true → steps d (copies (entry_of d s x)) s ≡ Some t → standing_at t p ≡ Unbegun
      of_process (Assignment a) held r =
          moved_on (steps_stand d (AssignEvent a) (entry_of d s (Assignment a)).count s t p tt r)
      of_process (Procedure q) held r = moved_on (steps_stand d (Stmt q) 1 s t p not_it r)
        where
          not_it : q ≡ p → ⊥
          not_it e =
              false≢true (sym (ap (stands_listed b) (ap (standing_at s) e ∙ before) ∙ isnt) ∙ held)

  pub kept_next : Kept d b t (next_ready d s t x xs)
  kept_next = record {
    holds = holds_next;
    begins = λ is. begins_last d (copies (entry_of d s x)) s t run (kept.begins is);
    waiting = waiting_next;
    fits = fits_then;
  }

-- ---- events that are no process's own
module _ (d : Design) (design : IsDesign d) (b : Bool) (e : Event) (others : (p : ℕ) → IsOther p e) (none_evaluated : (a : ℕ) → NoEvaluation a e) (k : ℕ) (s t : MachineState) (runs : steps d (replicate k e) s ≡ Some t) (xs : List Process) (kept : Kept d b s xs) where
  then_fits : IsStateOf d t
  then_fits = steps_keep d (replicate k e) s t design kept.fits runs

  follows_event : (y : Process) → Follows d b s s t y
  follows_event (Procedure p) = proc_follows d b s s t p refl kept.fits (steps_stand d e k s t p (others p) runs)
  follows_event (Assignment a) =
      assign_follows d b s s t a refl then_fits (evaluations_last d e k s t a (none_evaluated a) runs)

  woken_among : (y : Process) → times (is_same_process y) (filter (is_among (processes d)) (woken d s t)) ≡ times (is_same_process y) (woken d s t)
  woken_among y = times_filter (is_among (processes d)) y (woken d s t) ∙ of_among (is_among (processes d) y) refl
    where
      news : times (is_same_process y) (woken d s t) ≡ (if is_woken s t y then times (is_same_process y) (processes d) else 0)
      news = times_filter (is_woken s t) y (processes d)

      of_woken : (w : Bool) → nat_lt 0 (times (is_same_process y) (processes d)) ≡ false → 0 ≡ (if w then times (is_same_process y) (processes d) else 0)
      of_woken true none = sym (none_pending (times (is_same_process y) (processes d)) none)
      of_woken false none = refl

      of_among : (c : Bool) → is_among (processes d) y ≡ c → (if c then times (is_same_process y) (woken d s t) else 0) ≡ times (is_same_process y) (woken d s t)
      of_among true is = refl
      of_among false is = of_woken (is_woken s t y) (sym (among_times y (processes d)) ∙ is) ∙ sym news

  pub kept_after : Kept d b t (with_new xs (filter (is_among (processes d)) (woken d s t)))
  kept_after = record {
    holds = λ y. times_new y xs (filter (is_among (processes d)) (woken d s t)) ∙ ap (λ m. times (is_same_process y) xs + (if is_among xs y then 0 else m)) (woken_among y) ∙ sym (times_new y xs (woken d s t)) ∙ held_next d b s s t y xs (follows_event y) (kept.holds y);
    begins = λ is. begins_last d (replicate k e) s t runs (kept.begins is);
    waiting = λ isnt p among. still p (kept.waiting isnt p among) (steps_stand d e k s t p (others p) runs);
    fits = then_fits;
  }
    where
      still : (p : ℕ) → standing_at s p ≡ Unbegun → StandsOn (standing_at s p) (standing_at t p) → standing_at t p ≡ Unbegun
      still p before (inl same) = same ∙ before
      still p before (inr w) = absurd (false≢true (ap is_waiting (sym before) ∙ w.0))

-- publications of a net
pub kept_published : (d : Design) (design : IsDesign d) (b : Bool) (n k : ℕ) (order : List ℕ) (s t : MachineState) → steps d (replicate k (Resolve n order)) s ≡ Some t → (xs : List Process) → Kept d b s xs → Kept d b t (with_new xs (filter (is_among (processes d)) (woken d s t)))
kept_published d design b n k order s t runs xs kept =
    kept_after d design b (Resolve n order) (λ p. tt) (λ a. tt) k s t runs xs kept
