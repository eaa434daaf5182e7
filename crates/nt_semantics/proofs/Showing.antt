-- A round of a state with something in Active shows something.
use Rattle.std.proofs.Common.{◌≡◌, ◌⊎◌, inl, inr, ℕ, zero, suc, ◌+◌, ◌<◌, ◌≤◌, ◌==◌, nat_lt, Bool, true, false, ◌&&◌, ◌||◌, if◌then◌else◌, List, [], ◌∷◌, ◌++◌, length, get_or, is_some, IsSome, Option, Some, None, refl, sym, ◌∙◌, ap, subst, arith, length-append}
use Rattle.std.specs.List.{list_any, range_with_len}
use Rattle.std.proofs.lemmas.Bool.{false≢true, eqb-true}
use Rattle.nt_design.specs.declared.design.Design.{Design}
use Rattle.nt_semantics.specs.Execution.{is_active, enter, if_some}
use Rattle.nt_semantics.specs.Groups.{processes, is_same_process}
use Rattle.nt_semantics.specs.Rounds.{Away, RoundState, ResolveEnd, PhaseEnd, TooLong, phase, quantum, evaluate, resolve_nets, resolve_after, round, with_woken, woken, net_entry, with_entry, entry_of, marks_of, next_ready, away_after, and_before, stops, first_of, too_long_of}
use Rattle.nt_semantics.specs.State.{MachineState, standing_at, count_at}
use Rattle.nt_semantics.specs.declared.standing.Standing.{Standing}
use Rattle.nt_semantics.specs.declared.standing.Standing.TheVariants.{Unbegun, Ready, Inactive, Later, Waits, Over}
use Rattle.nt_semantics.specs.Step.{is_pending_at, is_some_put, may_begin}
use Rattle.nt_semantics.specs.declared.event.Event.{Event}
use Rattle.nt_semantics.specs.declared.event.Event.TheVariants.{Resolve}
use Rattle.nt_semantics.specs.declared.process.Process.{Process}
use Rattle.nt_semantics.specs.declared.process.Process.TheVariants.{Procedure, Assignment}
use Rattle.nt_semantics.specs.ReadyLists.{RoundFits, has_begun, is_held, one_if, stands_listed, times}
use Rattle.nt_semantics.specs.Laws.{RoundShows}

-- ---- places in lists
any_place : {A : Type 0} (test : A → Bool) (past : A) (xs : List A) → list_any test xs ≡ true → (i : ℕ) × (i < length xs) × (test (get_or xs i past) ≡ true)
any_place test past [] h = absurd (false≢true h)
any_place test past (x ∷ xs) h = of_first (λ g. any_place test past xs g) (test x) refl h
  where
    of_first : (list_any test xs ≡ true → (i : ℕ) × (i < length xs) × (test (get_or xs i past) ≡ true)) → (b : Bool) → test x ≡ b → (b || list_any test xs) ≡ true → (i : ℕ) × (i < length (x ∷ xs)) × (test (get_or (x ∷ xs) i past) ≡ true)
    of_first rest true is g = (zero, omega arith, is)
    of_first rest false is g = let i = rest g in (suc i.0, omega (arith, i.1), i.2)

-- ---- phase Resolve
some_entry : (d : Design) (groups : List (List Process)) (orders : ℕ → List ℕ) (k a n : ℕ) (s : MachineState) (ready : List (List Process)) → a ≤ n → n < a + k → nat_lt 0 (count_at s.resolutions n) ≡ true → (0 < length (resolve_nets d groups orders (range_with_len a k) s ready).entries) ⊎ IsSome (resolve_nets d groups orders (range_with_len a k) s ready).too_long
some_entry d groups orders zero a n s ready low high pending = absurd (omega (arith, low, high))
some_entry d groups orders (suc k) a n s ready low high pending =
    of_count (λ other. some_entry d groups orders k (a + 1) n s ready other (omega (arith, high)) pending) (count_at s.resolutions a == 0) refl
  where
    end_of : Option MachineState → ResolveEnd
    end_of o = if_some (record { state = s; ready = ready; entries = []; too_long = Some (Resolve a (orders a)) }) (λ t. with_entry (net_entry s a (orders a)) (resolve_nets d groups orders (range_with_len (a + 1) k) t (with_woken groups (woken d s t) ready))) o

    of_entry : (o : Option MachineState) → (0 < length (end_of o).entries) ⊎ IsSome (end_of o).too_long
    of_entry None = inr refl
    of_entry (Some t) = inl (omega arith)

    not_here : (count_at s.resolutions a == 0) ≡ true → a ≡ n → ⊥
    not_here none same =
        let zero_there : count_at s.resolutions n ≡ 0 = ap (count_at s.resolutions) (sym same) ∙ eqb-true (count_at s.resolutions a) 0 none in
        false≢true (sym (ap (nat_lt 0) zero_there) ∙ pending)

    above : (a ≡ n → ⊥) → a + 1 ≤ n
    above other = omega (arith, low, other)

    of_count : (a + 1 ≤ n → (0 < length (resolve_nets d groups orders (range_with_len (a + 1) k) s ready).entries) ⊎ IsSome (resolve_nets d groups orders (range_with_len (a + 1) k) s ready).too_long) → (b : Bool) → (count_at s.resolutions a == 0) ≡ b → (0 < length (if b then resolve_nets d groups orders (range_with_len (a + 1) k) s ready else end_of (enter d s (net_entry s a (orders a)))).entries) ⊎ IsSome (if b then resolve_nets d groups orders (range_with_len (a + 1) k) s ready else end_of (enter d s (net_entry s a (orders a)))).too_long
    of_count rest true none = rest (above (not_here none))
    of_count rest false some = of_entry (enter d s (net_entry s a (orders a)))

-- ---- phase Evaluate
abbrev Stopped : PhaseEnd → Type 0
Stopped e = (0 < length e.entries) ⊎ ((event : Event) × (e.how ≡ TooLong event))

phase_shows : (n : ℕ) (d : Design) (s : MachineState) (x : Process) (xs : List Process) (away : Away) → Stopped (phase (suc n) d s (x ∷ xs) away)
unfolding phase
phase_shows n d s x xs away = of_entry (enter d s (entry_of d s x))
  where
    of_entry : (o : Option MachineState) → Stopped (if_some (stops s (x ∷ xs) away (TooLong (entry_of d s x).event)) (λ t. and_before (entry_of d s x) (marks_of d s t x) (phase n d t (next_ready d s t x xs) (away_after t x away))) o)
    of_entry None = inr ((entry_of d s x).event, refl)
    of_entry (Some t) = inl (omega arith)

-- ---- a round
too_long_is : (e : PhaseEnd) (event : Event) (later : Option Event) → e.how ≡ TooLong event → IsSome (first_of (too_long_of e.how None) later)
too_long_is e event later is = ap (λ h. is_some (first_of (too_long_of h None) later)) is

module _ (d : Design) (orders : ℕ → List ℕ) (r : RoundState) where
  abbrev ShowsAt : List (List Process) → Type 0
  ShowsAt l =
      (0 < length ((evaluate d r.state l r.away).entries ++ (resolve_after d (processes d ∷ []) orders (evaluate d r.state l r.away)).entries))
      ⊎ IsSome (first_of (evaluate d r.state l r.away).too_long (resolve_after d (processes d ∷ []) orders (evaluate d r.state l r.away)).too_long)

  shows_some : (x : Process) (xs : List Process) → ShowsAt ((x ∷ xs) ∷ [])
  shows_some x xs = elim (phase_shows 1023 d r.state x xs r.away) [
    | inl some ↦ inl (longer (phase quantum d r.state (x ∷ xs) r.away).entries [] (resolve_after d (processes d ∷ []) orders (evaluate d r.state ((x ∷ xs) ∷ []) r.away)).entries some)
    | inr long ↦ inr (too_long_is (phase quantum d r.state (x ∷ xs) r.away) long.0 (resolve_after d (processes d ∷ []) orders (evaluate d r.state ((x ∷ xs) ∷ []) r.away)).too_long long.1)
  ]
    where
      longer : {A : Type 0} (xs ys zs : List A) → 0 < length xs → 0 < length ((xs ++ ys) ++ zs)
      longer xs ys zs h = omega (arith, h, length-append (xs ++ ys) zs, length-append xs ys)

  module _ (fits : RoundFits d r) (begun : r.begun ≡ true) where
    none_held : fits.list ≡ [] → (x : Process) → is_held (has_begun r) r.state x ≡ true → ⊥
    none_held none x h =
        let one : times (is_same_process x) [] ≡ 1 = ap (times (is_same_process x)) (sym none) ∙ fits.holds x ∙ ap one_if h in
        omega (arith, one)

    no_place : fits.list ≡ [] → (i : ℕ) → i < length r.state.standings → is_pending_at r.state (standing_at r.state i) ≡ true → ⊥
    no_place none i low h = of_place (standing_at r.state i) refl h
      where
        of_place : (q : Standing) → standing_at r.state i ≡ q → is_pending_at r.state q ≡ true → ⊥
        of_place Ready is g = none_held none (Procedure i) (ap (stands_listed (has_begun r)) is)
        of_place Unbegun is g =
            none_held none (Procedure i) (ap (stands_listed (has_begun r)) is ∙ ap (λ b. b && may_begin r.state) begun ∙ g)
        of_place Inactive is g = false≢true g
        of_place (Later at) is g = false≢true g
        of_place (Waits kept) is g = false≢true g
        of_place Over is g = false≢true g

    no_evaluation : fits.list ≡ [] → (a : ℕ) → a < length r.state.evaluations → nat_lt 0 (count_at r.state.evaluations a) ≡ true → ⊥
    no_evaluation none a low h = none_held none (Assignment a) h

    shows_none : fits.list ≡ [] → is_active r.state ≡ true → ShowsAt ([] ∷ [])
    unfolding is_active phase
    shows_none none active = of_places (list_any (is_pending_at r.state) r.state.standings) refl active
      where
        of_moved : is_some_put r.state.moved ≡ true → ShowsAt ([] ∷ [])
        of_moved g = absurd (false≢true (sym (ap is_some_put fits.moved) ∙ g))

        of_resolutions : (b : Bool) → list_any (nat_lt 0) r.state.resolutions ≡ b → (b || is_some_put r.state.moved) ≡ true → ShowsAt ([] ∷ [])
        of_resolutions true is g =
            let n = any_place (nat_lt 0) 0 r.state.resolutions is in
            some_entry d (processes d ∷ []) orders (length d.nets) 0 n.0 r.state ([] ∷ []) (omega arith) (omega (arith, n.1, fits.fits.resolutions)) n.2
        of_resolutions false is g = of_moved g

        of_evaluations : (b : Bool) → list_any (nat_lt 0) r.state.evaluations ≡ b → (b || (list_any (nat_lt 0) r.state.resolutions || is_some_put r.state.moved)) ≡ true → ShowsAt ([] ∷ [])
        of_evaluations true is g =
            let a = any_place (nat_lt 0) 0 r.state.evaluations is in absurd (no_evaluation none a.0 a.1 a.2)
        of_evaluations false is g = of_resolutions (list_any (nat_lt 0) r.state.resolutions) refl g

        of_places : (b : Bool) → list_any (is_pending_at r.state) r.state.standings ≡ b → (b || (list_any (nat_lt 0) r.state.evaluations || (list_any (nat_lt 0) r.state.resolutions || is_some_put r.state.moved))) ≡ true → ShowsAt ([] ∷ [])
        of_places true is g =
            let i = any_place (is_pending_at r.state) Over r.state.standings is in absurd (no_place none i.0 i.1 i.2)
        of_places false is g = of_evaluations (list_any (nat_lt 0) r.state.evaluations) refl g

    shows_list : (l : List Process) → fits.list ≡ l → is_active r.state ≡ true → ShowsAt (l ∷ [])
    shows_list [] is active = shows_none is active
    shows_list (x ∷ xs) is active = shows_some x xs

    shows_here : is_active r.state ≡ true → ShowsAt r.ready
    shows_here active = subst ShowsAt (sym fits.is_list) (shows_list fits.list refl active)

pub round_shows : RoundShows
unfolding round
round_shows d orders r fits begun active = shows_here d orders r fits begun active
