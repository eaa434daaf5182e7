-- What is right between rounds with one group is right at the start and after a round, and a round stops only at what is too
-- long.
use Rattle.std.specs.Prelude.{IfSome}
use Rattle.std.proofs.Common.{◌≡◌, inl, inr, ℕ, zero, suc, ◌+◌, ◌<◌, ◌≤◌, ◌==◌, nat_lt, Bool, true, false, not, ◌&&◌, if◌then◌else◌, List, [], ◌∷◌, length, map, filter, get_or, is_some, Some, None, refl, sym, ◌∙◌, ap, subst, arith}
use Rattle.std.specs.List.{range_with_len}
use Rattle.std.proofs.lemmas.Bool.{false≢true, ltb-true, lt-ltb}
use Rattle.std.proofs.lemmas.List.{get_or_past, length-map}
use Rattle.nt_design.specs.WellFormed.{IsDesign}
use Rattle.nt_design.specs.declared.design.Design.{Design}
use Rattle.nt_design.specs.declared.process.Proc.{Proc}
use Rattle.nt_semantics.proofs.Begun.{is_unbegun, steps_before, unbegun_is}
use Rattle.nt_semantics.proofs.Counting.{among_times, assign_once, chosen_once, in_range, no_assign, proc_once, times_filter, times_filter_number, times_new, times_procs}
use Rattle.nt_semantics.proofs.GoingHere.{entries_go, leaves}
use Rattle.nt_semantics.proofs.Holding.{Kept, count_there, kept_next, kept_published}
use Rattle.nt_semantics.proofs.Listing.{phase_keeps}
use Rattle.nt_semantics.proofs.Rounding.{OneOf, resolve_keeps}
use Rattle.nt_semantics.proofs.RoundSteps.{round_enters, round_leads}
use Rattle.nt_semantics.proofs.StartFitting.{start_fits}
use Rattle.nt_semantics.proofs.Stopping.{LongAt, nets_long, phase_long}
use Rattle.nt_semantics.proofs.Waking.{lt_or_le}
use Rattle.nt_semantics.specs.Execution.{IsTooLong, enter_all, expansion, steps}
use Rattle.nt_semantics.specs.Groups.{processes, is_among, is_same_process}
use Rattle.nt_semantics.specs.Laws.{AreOrders, RoundGoes, RoundKeepsFits, RoundsStartFit}
use Rattle.nt_semantics.specs.ReadyLists.{AllUnbegun, Holds, RoundFits, UnbegunListed, has_begun, is_held, one_if, stands_listed, times}
use Rattle.nt_semantics.specs.Rounds.{Ended, Idle, PhaseEnd, Quantum, ResolveEnd, RoundState, TooLong, combs, combs_after, evaluate, first_of, is_ready, phase, quantum, resolve_after, resolve_nets, round, stands_ready, start_rounds, too_long_of, with_new, with_woken}
use Rattle.nt_semantics.specs.Slots.{Went}
use Rattle.nt_semantics.specs.State.{MachineState, is_comb, standing_at, start_state}
use Rattle.nt_semantics.specs.StateFits.{IsStateOf}
use Rattle.nt_semantics.specs.Step.{may_begin}
use Rattle.nt_semantics.specs.declared.process.Process.{Process}
use Rattle.nt_semantics.specs.declared.process.Process.TheVariants.{Procedure, Assignment}
use Rattle.nt_semantics.specs.declared.standing.Standing.{Standing}
use Rattle.nt_semantics.specs.declared.standing.Standing.TheVariants.{Unbegun, Ready, Inactive, Later, Waits, Over}

second : (a b : Bool) → (a && b) ≡ true → b ≡ true
second true b h = h
second false b h = absurd (false≢true h)

-- ---- `always_comb` on the list
comb_times : (d : Design) (p : ℕ) → times (is_same_process (Procedure p)) (combs d) ≤ 1
comb_times d p =
    let same = times_procs p (filter (λ q. get_or (map (λ (proc : Proc). is_comb proc.kind) d.procs) q false) (range_with_len 0 (length d.procs))) in
    omega (arith, same, chosen_once (λ q. get_or (map (λ (proc : Proc). is_comb proc.kind) d.procs) q false) p 0 (length d.procs))

one_there : (n : ℕ) → n ≤ 1 → nat_lt 0 n ≡ true → n ≡ 1
one_there n few some = omega (arith, few, ltb-true 0 n some)

none_there : (n : ℕ) → nat_lt 0 n ≡ false → n ≡ 0
none_there zero h = refl
none_there (suc n) h = absurd (false≢true (sym h ∙ lt-ltb 0 (suc n) (omega arith)))

-- where a standing isn't before the first step, the list needn't say whether those count
same_listed : (b : Bool) (a : Standing) → is_unbegun a ≡ false → stands_listed b a ≡ stands_listed false a
same_listed b Unbegun h = absurd (false≢true (sym h))
same_listed b Ready h = refl
same_listed b Inactive h = refl
same_listed b (Later at) h = refl
same_listed b (Waits kept) h = refl
same_listed b Over h = refl

-- an `always_comb` more or less on a list that holds the others
module _ (d : Design) (t : MachineState) (xs : List Process) (holds : Holds false t xs) (waiting : AllUnbegun t (combs d)) (unbegun : UnbegunListed t (combs d)) (fits : IsStateOf d t) where
  in_procs : (p : ℕ) → is_unbegun (standing_at t p) ≡ true → p < length d.procs
  in_procs p u = elim (lt_or_le p (length t.standings)) [
    | inl low ↦ omega (arith, low, fits.standings)
    | inr past ↦ absurd (false≢true (ap is_unbegun (sym (get_or_past t.standings p Over past)) ∙ u))
  ]

  added_times : (y : Process) → times (is_same_process y) (filter (is_among (processes d)) (combs d)) ≡ (if is_among (processes d) y then times (is_same_process y) (combs d) else 0)
  added_times y = times_filter (is_among (processes d)) y (combs d)

  none_chosen : (c : Bool) (n : ℕ) → n ≡ 0 → (if c then n else 0) ≡ 0
  none_chosen true n h = h
  none_chosen false n h = refl

  plus_none : (c : Bool) (n m : ℕ) → m ≡ 0 → n + (if c then 0 else m) ≡ n
  plus_none true n m h = omega arith
  plus_none false n m h = omega (arith, h)

  comb_listed : (p : ℕ) → (c : Bool) → is_unbegun (standing_at t p) ≡ c → times (is_same_process (Procedure p)) (with_new xs (filter (is_among (processes d)) (combs d))) ≡ one_if (stands_listed true (standing_at t p))
  comb_listed p true u =
      let is : standing_at t p ≡ Unbegun = unbegun_is (standing_at t p) u in
      let none : times (is_same_process (Procedure p)) xs ≡ 0 = holds (Procedure p) ∙ ap (λ a. one_if (stands_listed false a)) is in
      let among : is_among (processes d) (Procedure p) ≡ true = among_times (Procedure p) (processes d) ∙ ap (nat_lt 0) (proc_once d p (in_procs p u)) in
      let one : times (is_same_process (Procedure p)) (combs d) ≡ 1 = one_there (times (is_same_process (Procedure p)) (combs d)) (comb_times d p) (sym (among_times (Procedure p) (combs d)) ∙ unbegun p is) in
      let added : times (is_same_process (Procedure p)) (filter (is_among (processes d)) (combs d)) ≡ 1 = added_times (Procedure p) ∙ ap (λ c. if c then times (is_same_process (Procedure p)) (combs d) else 0) among ∙ one in
      times_new (Procedure p) xs (filter (is_among (processes d)) (combs d)) ∙ ap (λ c. times (is_same_process (Procedure p)) xs + (if c then 0 else times (is_same_process (Procedure p)) (filter (is_among (processes d)) (combs d)))) (among_times (Procedure p) xs ∙ ap (nat_lt 0) none) ∙ omega (arith, none, added) ∙ ap (λ a. one_if (stands_listed true a)) (sym is)
  comb_listed p false u =
      times_new (Procedure p) xs (filter (is_among (processes d)) (combs d)) ∙ plus_none (is_among xs (Procedure p)) (times (is_same_process (Procedure p)) xs) (times (is_same_process (Procedure p)) (filter (is_among (processes d)) (combs d))) (added_times (Procedure p) ∙ none_chosen (is_among (processes d) (Procedure p)) (times (is_same_process (Procedure p)) (combs d)) none) ∙ holds (Procedure p) ∙ ap one_if (sym (same_listed true (standing_at t p) u))
    where
      of_among : (c : Bool) → is_among (combs d) (Procedure p) ≡ c → nat_lt 0 (times (is_same_process (Procedure p)) (combs d)) ≡ false
      of_among true is = absurd (false≢true (sym u ∙ ap is_unbegun (waiting p is)))
      of_among false is = sym (among_times (Procedure p) (combs d)) ∙ is

      none : times (is_same_process (Procedure p)) (combs d) ≡ 0
      none = none_there (times (is_same_process (Procedure p)) (combs d)) (of_among (is_among (combs d) (Procedure p)) refl)

  combs_listed : Holds true t (with_new xs (filter (is_among (processes d)) (combs d)))
  combs_listed (Procedure p) = comb_listed p (is_unbegun (standing_at t p)) refl
  combs_listed (Assignment a) =
      times_new (Assignment a) xs (filter (is_among (processes d)) (combs d)) ∙ plus_none (is_among xs (Assignment a)) (times (is_same_process (Assignment a)) xs) (times (is_same_process (Assignment a)) (filter (is_among (processes d)) (combs d))) (added_times (Assignment a) ∙ none_chosen (is_among (processes d) (Assignment a)) (times (is_same_process (Assignment a)) (combs d)) (no_assign a (filter (λ q. get_or (map (λ (proc : Proc). is_comb proc.kind) d.procs) q false) (range_with_len 0 (length d.procs))))) ∙ holds (Assignment a)

-- ---- a round
module _ (d : Design) (design : IsDesign d) (orders : ℕ → List ℕ) (r : RoundState) (fits : RoundFits d r) where
  abbrev begun : Bool
  begun = has_begun r

  -- the same round, with its list at hand
  abbrev here : RoundState
  here = record r { ready = fits.list ∷ [] }

  abbrev phase_end : PhaseEnd
  phase_end = phase quantum d r.state fits.list r.away

  abbrev nets : List ℕ
  nets = if is_some (evaluate d r.state (fits.list ∷ []) r.away).too_long then [] else range_with_len 0 (length d.nets)

  abbrev nets_end : ResolveEnd
  nets_end = resolve_after d (processes d ∷ []) orders (evaluate d r.state (fits.list ∷ []) r.away)

  kept_before : Kept d begun r.state fits.list
  kept_before = record {
    holds = fits.holds;
    begins = second r.begun (may_begin r.state);
    waiting = fits.waiting;
    fits = fits.fits;
  }

  kept_evaluated : Kept d begun phase_end.state phase_end.ready
  kept_evaluated =
      phase_keeps d (Kept d begun) (λ s t x xs is k. kept_next d design begun s t x xs is k) quantum r.state fits.list r.away kept_before

  kept : OneOf (Kept d begun) nets_end.state nets_end.ready
  kept =
      resolve_keeps d orders (Kept d begun) (λ n k order s t runs xs h. kept_published d design begun n k order s t runs xs h) nets phase_end.state phase_end.ready kept_evaluated

  abbrev added : List Process
  added = filter (is_among (processes d)) (combs_after d r nets_end.state)

  leads : steps d (expansion (round d (processes d ∷ []) orders here).entries) r.state ≡ Some (round d (processes d ∷ []) orders here).after.state
  leads = round_leads d (processes d ∷ []) orders here

  state_is : (round d (processes d ∷ []) orders here).after.state ≡ nets_end.state
  unfolding round
  state_is = refl

  run_here : steps d (expansion (round d (processes d ∷ []) orders here).entries) r.state ≡ Some nets_end.state
  run_here = leads ∙ ap (λ (s : MachineState). Some s) state_is

  enters_here : enter_all d (round d (processes d ∷ []) orders here).entries r.state ≡ Some nets_end.state
  enters_here = round_enters d (processes d ∷ []) orders here ∙ ap (λ (s : MachineState). Some s) state_is

  unbegun_there : (p : ℕ) → standing_at nets_end.state p ≡ Unbegun → is_among (combs d) (Procedure p) ≡ true
  unbegun_there p u =
      fits.unbegun p (steps_before d (expansion (round d (processes d ∷ []) orders here).entries) r.state nets_end.state p run_here u)

  holds_there : Holds (may_begin nets_end.state) nets_end.state (with_new kept.0 added)
  holds_there = of_begun begun refl
    where
      -- a list with nothing added
      alone : (b : Bool) → Holds b nets_end.state kept.0 → Holds b nets_end.state (with_new kept.0 [])
      alone b holds y = times_new y kept.0 [] ∙ nothing (is_among kept.0 y) (times (is_same_process y) kept.0) ∙ holds y
        where
          nothing : (c : Bool) (n : ℕ) → n + (if c then 0 else times (is_same_process y) []) ≡ n
          nothing true n = omega arith
          nothing false n = omega arith

      none_more : (b : Bool) → (b && not true) ≡ false
      none_more true = refl
      none_more false = refl

      all_more : (b : Bool) → (b && not false) ≡ b
      all_more true = refl
      all_more false = refl

      of_may : begun ≡ false → (may : Bool) → may_begin nets_end.state ≡ may → Holds may nets_end.state (with_new kept.0 (filter (is_among (processes d)) (if may then combs d else [])))
      of_may isnt true is =
          combs_listed d nets_end.state kept.0 (subst (λ b. Holds b nets_end.state kept.0) isnt kept.2.holds) (kept.2.waiting isnt) unbegun_there kept.2.fits
      of_may isnt false is = alone false (subst (λ b. Holds b nets_end.state kept.0) isnt kept.2.holds)

      put_in : (c e : Bool) → c ≡ e → Holds (may_begin nets_end.state) nets_end.state (with_new kept.0 (filter (is_among (processes d)) (if e then combs d else []))) → Holds (may_begin nets_end.state) nets_end.state (with_new kept.0 (filter (is_among (processes d)) (if c then combs d else [])))
      put_in c e same =
          subst (λ x. Holds (may_begin nets_end.state) nets_end.state (with_new kept.0 (filter (is_among (processes d)) (if x then combs d else [])))) (sym same)

      of_begun : (b : Bool) → begun ≡ b → Holds (may_begin nets_end.state) nets_end.state (with_new kept.0 added)
      of_begun true is =
          put_in (may_begin nets_end.state && not begun) false (ap (λ b. may_begin nets_end.state && not b) is ∙ none_more (may_begin nets_end.state)) (subst (λ b. Holds b nets_end.state (with_new kept.0 [])) (sym (kept.2.begins is)) (alone true (subst (λ b. Holds b nets_end.state kept.0) is kept.2.holds)))
      of_begun false is =
          put_in (may_begin nets_end.state && not begun) (may_begin nets_end.state) (ap (λ b. may_begin nets_end.state && not b) is ∙ all_more (may_begin nets_end.state)) (of_may is (may_begin nets_end.state) refl)

  waiting_there : may_begin nets_end.state ≡ false → AllUnbegun nets_end.state (combs d)
  waiting_there isnt = of_begun begun refl
    where
      of_begun : (b : Bool) → begun ≡ b → AllUnbegun nets_end.state (combs d)
      of_begun true is = absurd (false≢true (sym isnt ∙ kept.2.begins is))
      of_begun false is = kept.2.waiting is

  moved_there : nets_end.state.moved ≡ []
  moved_there =
      let x = leaves d (round d (processes d ∷ []) orders here).entries r.state nets_end.state design fits.fits enters_here in
      let before : length r.state.moved ≡ 0 = ap (λ l. length l) fits.moved in
      none_moved nets_end.state.moved (omega (arith, x.moved, before))
    where
      none_moved : {A : Type 0} (xs : List A) → length xs ≤ 0 → xs ≡ []
      none_moved [] h = refl
      none_moved (y ∷ xs) h = absurd (omega (arith, h))

  fits_here : RoundFits d (round d (processes d ∷ []) orders here).after
  unfolding round
  fits_here = record {
    list = with_new kept.0 added;
    is_list = ap (with_woken (processes d ∷ []) (combs_after d r nets_end.state)) kept.1;
    holds = holds_there;
    waiting = waiting_there;
    unbegun = unbegun_there;
    moved = moved_there;
    fits = kept.2.fits;
  }

  -- what is too long at its end
  module _ (ordered : AreOrders d orders) where
    abbrev nets_of : Ended → ResolveEnd
    nets_of how =
        resolve_nets d (processes d ∷ []) orders (if is_some (too_long_of how None) then [] else range_with_len 0 (length d.nets)) phase_end.state (phase_end.ready ∷ [])

    long_of : (how : Ended) → LongAt d phase_end.state how → IfSome (first_of (too_long_of how None) (nets_of how).too_long) (IsTooLong d (nets_of how).state)
    long_of Idle long =
        nets_long d orders begun design ordered (range_with_len 0 (length d.nets)) phase_end.state phase_end.ready kept_evaluated
    long_of Quantum long =
        nets_long d orders begun design ordered (range_with_len 0 (length d.nets)) phase_end.state phase_end.ready kept_evaluated
    long_of (TooLong event) long = long

    goes_here : Went d r.state (round d (processes d ∷ []) orders here).entries (round d (processes d ∷ []) orders here).too_long (round d (processes d ∷ []) orders here).after.state
    unfolding round
    goes_here =
        let w = entries_go d (round d (processes d ∷ []) orders here).entries r.state nets_end.state design fits.fits enters_here in
        record {
          reached = w.reached;
          runs = w.runs;
          here = w.here;
          counted = w.counted;
          long = long_of phase_end.how (phase_long quantum d begun r.state fits.list r.away design kept_before);
          moment = w.moment;
          grows = w.grows;
        }

pub round_fits : RoundKeepsFits
round_fits d orders r design fits =
    subst (λ (l : List (List Process)). RoundFits d (round d (processes d ∷ []) orders (record r { ready = l })).after) (sym fits.is_list) (fits_here d design orders r fits)

pub round_goes : RoundGoes
round_goes d orders r design ordered fits =
    subst (λ (l : List (List Process)). Went d r.state (round d (processes d ∷ []) orders (record r { ready = l })).entries (round d (processes d ∷ []) orders (record r { ready = l })).too_long (round d (processes d ∷ []) orders (record r { ready = l })).after.state) (sym fits.is_list) (goes_here d design orders r fits ordered)

-- ---- the start
comb_standing : (d : Design) (p : ℕ) → p < length d.procs → standing_at (start_state d) p ≡ (if get_or (map (λ (proc : Proc). is_comb proc.kind) d.procs) p false then Unbegun else Ready)
comb_standing d p low = of_procs d.procs p low
  where
    of_procs : (procs : List Proc) (p : ℕ) → p < length procs → get_or (map (λ (proc : Proc). if is_comb proc.kind then Unbegun else Ready) procs) p Over ≡ (if get_or (map (λ (proc : Proc). is_comb proc.kind) procs) p false then Unbegun else Ready)
    of_procs [] p low = absurd (omega (arith, low))
    of_procs (proc ∷ procs) zero low = refl
    of_procs (proc ∷ procs) (suc p) low = of_procs procs p (omega (arith, low))

module _ (d : Design) (design : IsDesign d) where
  abbrev s : MachineState
  s = start_state d

  begins_fits : IsStateOf d s
  begins_fits = start_fits d design

  proc_held : (p : ℕ) → is_held false s (Procedure p) ≡ is_ready s (Procedure p)
  proc_held p = of_standing (standing_at s p)
    where
      of_standing : (a : Standing) → stands_listed false a ≡ stands_ready a
      of_standing Unbegun = refl
      of_standing Ready = refl
      of_standing Inactive = refl
      of_standing (Later at) = refl
      of_standing (Waits values) = refl
      of_standing Over = refl

  held_ready : (y : Process) → is_held false s y ≡ is_ready s y
  held_ready (Procedure p) = proc_held p
  held_ready (Assignment a) = refl

  ready_once : (y : Process) → is_ready s y ≡ true → times (is_same_process y) (processes d) ≡ 1
  ready_once (Procedure p) h = elim (lt_or_le p (length s.standings)) [
    | inl low ↦ proc_once d p (omega (arith, low, begins_fits.standings))
    | inr past ↦ absurd (false≢true (ap stands_ready (sym (get_or_past s.standings p Over past)) ∙ h))
  ]
  ready_once (Assignment a) h =
      assign_once d a (omega (arith, count_there s.evaluations a h, begins_fits.evaluations))

  start_holds : Holds false s (filter (is_ready s) (processes d))
  start_holds y = times_filter (is_ready s) y (processes d) ∙ of_ready (is_ready s y) refl ∙ ap one_if (sym (held_ready y))
    where
      of_ready : (c : Bool) → is_ready s y ≡ c → (if c then times (is_same_process y) (processes d) else 0) ≡ one_if c
      of_ready true is = ready_once y is
      of_ready false is = refl

  abbrev test : ℕ → Bool
  test q = get_or (map (λ (proc : Proc). is_comb proc.kind) d.procs) q false

  comb_times_are : (p : ℕ) → times (is_same_process (Procedure p)) (combs d) ≡ (if test p then times (λ q. p == q) (range_with_len 0 (length d.procs)) else 0)
  comb_times_are p =
      times_procs p (filter test (range_with_len 0 (length d.procs))) ∙ times_filter_number test p (range_with_len 0 (length d.procs))

  comb_low : (p : ℕ) → test p ≡ true → p < length d.procs
  comb_low p h = elim (lt_or_le p (length (map (λ (proc : Proc). is_comb proc.kind) d.procs))) [
    | inl low ↦ omega (arith, low, length-map d.procs (λ (proc : Proc). is_comb proc.kind))
    | inr past ↦ absurd (false≢true (sym (get_or_past (map (λ (proc : Proc). is_comb proc.kind) d.procs) p false past) ∙ h))
  ]

  start_waiting : AllUnbegun s (combs d)
  start_waiting p among = of_test (test p) refl
    where
      of_test : (c : Bool) → test p ≡ c → standing_at s p ≡ Unbegun
      of_test true is = comb_standing d p (comb_low p is) ∙ ap (λ c. if c then Unbegun else Ready) is
      of_test false is =
          absurd (false≢true (sym (among_times (Procedure p) (combs d) ∙ ap (nat_lt 0) (comb_times_are p ∙ ap (λ c. if c then times (λ q. p == q) (range_with_len 0 (length d.procs)) else 0) is)) ∙ among))

  start_unbegun : UnbegunListed s (combs d)
  start_unbegun p u = elim (lt_or_le p (length s.standings)) [
    | inl low ↦ of_test (omega (arith, low, begins_fits.standings)) (test p) refl
    | inr past ↦ absurd (false≢true (ap is_unbegun (sym (get_or_past s.standings p Over past) ∙ u)))
  ]
    where
      of_test : p < length d.procs → (c : Bool) → test p ≡ c → is_among (combs d) (Procedure p) ≡ true
      of_test low true is =
          among_times (Procedure p) (combs d) ∙ ap (nat_lt 0) (comb_times_are p ∙ ap (λ c. if c then times (λ q. p == q) (range_with_len 0 (length d.procs)) else 0) is ∙ in_range p 0 (length d.procs) (omega arith) (omega (arith, low)))
      of_test low false is =
          absurd (false≢true (ap is_unbegun (sym (comb_standing d p low ∙ ap (λ c. if c then Unbegun else Ready) is) ∙ u)))

  begin_fits : RoundFits d (start_rounds d (processes d ∷ []))
  begin_fits = record {
    list = filter (is_ready s) (processes d);
    is_list = refl;
    holds = start_holds;
    waiting = λ isnt. start_waiting;
    unbegun = start_unbegun;
    moved = refl;
    fits = begins_fits;
  }

pub rounds_start : RoundsStartFit
rounds_start d design = begin_fits d design
