-- What a move keeps: the slot, or else it begins a later one; and that the state is one of its design.
use Rattle.std.proofs.Common.{◌≡◌, ℕ, zero, suc, ◌<◌, ◌≤◌, ◌^◌, Bool, true, false, ◌||◌, ◌==◌, if◌then◌else◌, List, [], ◌∷◌, map, length, get_or, refl, ap, sym, subst, ◌∙◌, arith, inl, inr}
use Rattle.std.specs.Prelude.{◌⊎◌, Option, Some, None, min, nat_le, slice_get}
use Rattle.std.specs.List.{list_any}
use Rattle.std.proofs.lemmas.Bool.{eqb-true, eq-eqb, cases_lt}
use Rattle.std.proofs.lemmas.Bool.Decides.{nat_tests}
use Rattle.std.proofs.lemmas.List.{length-map}
use Rattle.std.proofs.lemmas.Option.{same_Some}
use Rattle.nt_design.specs.declared.design.Design.{Design}
use Rattle.nt_design.specs.declared.process.Proc.{Proc}
use Rattle.nt_semantics.proofs.Filling.{is_at, is_of_some, none_some, true_not}
use Rattle.nt_semantics.specs.Execution.{is_over, has_inactive, active_standing, activate, move_updates, begin_slot, begin_next, next_moment, sooner, standing_in_slot}
use Rattle.nt_semantics.specs.Laws.{MoveStays, MoveKeeps}
use Rattle.nt_semantics.specs.State.{MachineState, standing_at, work_at}
use Rattle.nt_semantics.specs.declared.standing.Standing.{Standing}
use Rattle.nt_semantics.specs.declared.standing.Standing.TheVariants.{Unbegun, Ready, Inactive, Later, Waits, Over}
use Rattle.nt_semantics.specs.declared.work.Work.{Work}
use Rattle.nt_semantics.specs.StateFits.{IsStateOf, StandingFits}
use Rattle.nt_semantics.specs.Step.{is_some_put}

-- the procedure that is delayed to a moment
record Delayed (m : ℕ) (places : List Standing) : Type 0 where
  proc : ℕ
  inside : proc < length places
  there : get_or places proc Over ≡ Later m

one_more : (m : ℕ) (standing : Standing) (places : List Standing) → Delayed m places → Delayed m (standing ∷ places)
one_more m standing places x = record { proc = suc x.proc; inside = omega (arith, x.inside); there = x.there }

delayed : (m : ℕ) (places : List Standing) → list_any (is_at m) places ≡ true → Delayed m places
delayed m [] h = absurd (true_not h)
delayed m (Unbegun ∷ places) h = one_more m Unbegun places (delayed m places h)
delayed m (Ready ∷ places) h = one_more m Ready places (delayed m places h)
delayed m (Inactive ∷ places) h = one_more m Inactive places (delayed m places h)
delayed m (Waits kept ∷ places) h = one_more m (Waits kept) places (delayed m places h)
delayed m (Over ∷ places) h = one_more m Over places (delayed m places h)
delayed m (Later at ∷ places) h = of_test (λ g. delayed m places g) (at == m) refl h
  where
    of_test : (list_any (is_at m) places ≡ true → Delayed m places) → (is : Bool) → (at == m) ≡ is → (is || list_any (is_at m) places) ≡ true → Delayed m (Later at ∷ places)
    of_test rest true is g =
        record { proc = 0; inside = omega arith; there = ap (λ k. Later k) (eqb-true at m is) }
    of_test rest false is g = one_more m (Later at) places (rest g)

-- a slot that begins is a later one
later_slot : (d : Design) (s : MachineState) (m : ℕ) → IsStateOf d s → next_moment s.standings ≡ Some m → s.moment < m
later_slot d s m is h =
    let x = delayed m s.standings (is_of_some s.standings m h) in
    of_proc x.proc x.there (slice_get d.procs x.proc) refl (subst (λ k. x.proc < k) is.standings x.inside)
  where
    none_proc : (proc : Proc) → None ≡ Some proc → ⊥
    none_proc proc g = cc

    of_proc : (p : ℕ) → standing_at s p ≡ Later m → (o : Option Proc) → slice_get d.procs p ≡ o → p < length d.procs → s.moment < m
    of_proc p there (Some proc) at inside =
        (subst (λ (standing : Standing). StandingFits s.moment (work_at s p) standing) there (is.procs p proc at).standing).1.0
    of_proc p there None at inside =
        absurd (none_there d.procs p inside at)
      where
        none_there : (procs : List Proc) (k : ℕ) → k < length procs → slice_get procs k ≡ None → ⊥
        none_there [] k low g = absurd (omega (arith, low))
        none_there (proc ∷ procs) zero low g = none_proc proc (sym g)
        none_there (proc ∷ procs) (suc k) low g = none_there procs k (omega (arith, low)) g

pub move_stays : MoveStays
move_stays until d s t is calm h = of_inactive (has_inactive s) refl h
  where
    of_limit : (m : ℕ) → next_moment s.standings ≡ Some m → (may : Bool) → (if may then Some (begin_slot m s) else None) ≡ Some t → s.moment < t.moment
    of_limit m at false g = absurd (none_some t g)
    of_limit m at true g =
        subst (λ (u : MachineState). s.moment < u.moment) (same_Some (begin_slot m s) t g) (later_slot d s m is at)

    of_next : (o : Option ℕ) → next_moment s.standings ≡ o → begin_next until s o ≡ Some t → s.moment < t.moment
    of_next None at g = absurd (none_some t g)
    of_next (Some m) at g = of_limit m at (nat_le m until) g

    of_finish : (done : Bool) → (if done then None else begin_next until s (next_moment s.standings)) ≡ Some t → s.moment < t.moment
    of_finish true g = absurd (none_some t g)
    of_finish false g = of_next (next_moment s.standings) refl g

    of_updates : has_inactive s ≡ false → (some : Bool) → is_some_put s.nonblocking ≡ some → (if some then Some (move_updates s) else (if s.finished then None else begin_next until s (next_moment s.standings))) ≡ Some t → ((is_over s ≡ false) × (t.moment ≡ s.moment)) ⊎ ((is_over s ≡ true) × (s.moment < t.moment))
    of_updates calm_too true is_some g =
        inl (rw (calm, calm_too, is_some) refl, ap (λ (u : MachineState). u.moment) (sym (same_Some (move_updates s) t g)))
    of_updates calm_too false is_some g = inr (rw (calm, calm_too, is_some) refl, of_finish s.finished g)

    of_inactive : (some : Bool) → has_inactive s ≡ some → (if some then Some (activate s) else (if is_some_put s.nonblocking then Some (move_updates s) else (if s.finished then None else begin_next until s (next_moment s.standings)))) ≡ Some t → ((is_over s ≡ false) × (t.moment ≡ s.moment)) ⊎ ((is_over s ≡ true) × (s.moment < t.moment))
    of_inactive true is_some g =
        inl (rw (calm, is_some) refl, ap (λ (u : MachineState). u.moment) (sym (same_Some (activate s) t g)))
    of_inactive false is_some g = of_updates is_some (is_some_put s.nonblocking) refl g

-- ---- states of a design
pub place_mapped : (f : Standing → Standing) → f Over ≡ Over → (places : List Standing) (p : ℕ) → get_or (map f places) p Over ≡ f (get_or places p Over)
place_mapped f over [] p = sym over
place_mapped f over (standing ∷ places) zero = refl
place_mapped f over (standing ∷ places) (suc p) = place_mapped f over places p

activated_fits : (moment : ℕ) (items : List Work) (standing : Standing) → StandingFits moment items standing → StandingFits moment items (active_standing standing)
activated_fits moment items Unbegun h = h
activated_fits moment items Ready h = h
activated_fits moment items Inactive h = h
activated_fits moment items (Later at) h = h
activated_fits moment items (Waits kept) h = h
activated_fits moment items Over h = h

-- the next slot is the least
none_later : (places : List Standing) (p at : ℕ) → next_moment places ≡ None → get_or places p Over ≡ Later at → ⊥
none_later [] p at h g = cc
none_later (Unbegun ∷ places) zero at h g = cc
none_later (Ready ∷ places) zero at h g = cc
none_later (Inactive ∷ places) zero at h g = cc
none_later (Waits kept ∷ places) zero at h g = cc
none_later (Over ∷ places) zero at h g = cc
none_later (Unbegun ∷ places) (suc p) at h g = none_later places p at h g
none_later (Ready ∷ places) (suc p) at h g = none_later places p at h g
none_later (Inactive ∷ places) (suc p) at h g = none_later places p at h g
none_later (Waits kept ∷ places) (suc p) at h g = none_later places p at h g
none_later (Over ∷ places) (suc p) at h g = none_later places p at h g
none_later (Later k ∷ places) p at h g = of_rest (next_moment places) h
  where
    of_rest : (o : Option ℕ) → sooner (Later k) o ≡ None → ⊥
    of_rest None i = cc
    of_rest (Some j) i = cc

same_later : (k at : ℕ) → Later k ≡ Later at → k ≡ at
same_later k at h = ap (λ standing. moment_of standing) h
  where
    moment_of : Standing → ℕ
    moment_of (Later m) = m
    moment_of _ = 0

least : (places : List Standing) (m p at : ℕ) → next_moment places ≡ Some m → get_or places p Over ≡ Later at → m ≤ at
least [] m p at h g = absurd (none_later [] p at refl g)
least (Unbegun ∷ places) m zero at h g = absurd (none_later (Unbegun ∷ []) zero at refl g)
least (Ready ∷ places) m zero at h g = absurd (none_later (Ready ∷ []) zero at refl g)
least (Inactive ∷ places) m zero at h g = absurd (none_later (Inactive ∷ []) zero at refl g)
least (Waits kept ∷ places) m zero at h g = absurd (none_later (Waits kept ∷ []) zero at refl g)
least (Over ∷ places) m zero at h g = absurd (none_later (Over ∷ []) zero at refl g)
least (Unbegun ∷ places) m (suc p) at h g = least places m p at h g
least (Ready ∷ places) m (suc p) at h g = least places m p at h g
least (Inactive ∷ places) m (suc p) at h g = least places m p at h g
least (Waits kept ∷ places) m (suc p) at h g = least places m p at h g
least (Over ∷ places) m (suc p) at h g = least places m p at h g
least (Later k ∷ places) m zero at h g = of_rest (next_moment places) h
  where
    of_rest : (o : Option ℕ) → sooner (Later k) o ≡ Some m → m ≤ at
    of_rest None i = let e = same_Some k m i in let f = same_later k at g in omega (arith, e, f)
    of_rest (Some j) i = let e = same_Some (min k j) m i in let f = same_later k at g in omega (arith, e, f)
least (Later k ∷ places) m (suc p) at h g =
    of_rest (next_moment places) refl (λ j r. least places j p at r g) h
  where
    of_rest : (o : Option ℕ) → next_moment places ≡ o → ((j : ℕ) → next_moment places ≡ Some j → j ≤ at) → sooner (Later k) o ≡ Some m → m ≤ at
    of_rest None r rest i = absurd (none_later places p at r g)
    of_rest (Some j) r rest i =
        let e = same_Some (min k j) m i in
        let low = rest j r in
        omega (arith, e, low)

arrived_fits : (before m : ℕ) (items : List Work) (standing : Standing) → ((at : ℕ) → standing ≡ Later at → m ≤ at) → StandingFits before items standing → StandingFits m items (standing_in_slot m standing)
arrived_fits before m items Unbegun low h = h
arrived_fits before m items Ready low h = h
arrived_fits before m items Inactive low h = h
arrived_fits before m items (Waits kept) low h = h
arrived_fits before m items Over low h = h
arrived_fits before m items (Later at) low h = of_test (at == m) refl
  where
    of_test : (is : Bool) → (at == m) ≡ is → StandingFits m items (if is then Ready else Later at)
    of_test true e = h.0
    of_test false e =
        let far = low at refl in
        let differs : at ≡ m → ⊥ = λ q. true_not (sym e ∙ eq-eqb at m q) in
        (h.0, (elim (cases_lt m at) [ inl below ↦ below | inr above ↦ absurd (differs (omega (arith, far, above))) ], h.1.1))

pub activate_fits : (d : Design) (s : MachineState) → IsStateOf d s → IsStateOf d (activate s)
activate_fits d s is = record {
  moment = is.moment;
  vars = is.vars;
  nets = is.nets;
  slots = is.slots;
  standings = length-map s.standings active_standing ∙ is.standings;
  work = is.work;
  locals = is.locals;
  locals_filled = is.locals_filled;
  fresh = is.fresh;
  evaluations = is.evaluations;
  resolutions = is.resolutions;
  procs = λ p proc at. let x = is.procs p proc at in record { work = x.work; standing = subst (λ (standing : Standing). StandingFits s.moment (work_at s p) standing) (sym (place_mapped active_standing refl s.standings p)) (activated_fits s.moment (work_at s p) (standing_at s p) x.standing) };
  nonblocking = is.nonblocking;
  moved = is.moved;
}

pub updates_fit : (d : Design) (s : MachineState) → IsStateOf d s → IsStateOf d (move_updates s)
updates_fit d s is = record {
  moment = is.moment;
  vars = is.vars;
  nets = is.nets;
  slots = is.slots;
  standings = is.standings;
  work = is.work;
  locals = is.locals;
  locals_filled = is.locals_filled;
  fresh = is.fresh;
  evaluations = is.evaluations;
  resolutions = is.resolutions;
  procs = λ p proc at. let x = is.procs p proc at in record { work = x.work; standing = x.standing };
  nonblocking = λ k put low. absurd (omega (arith, low));
  moved = is.nonblocking;
}

pub slot_fits : (d : Design) (s : MachineState) (m : ℕ) → m ≤ 2 ^ 48 → IsStateOf d s → next_moment s.standings ≡ Some m → IsStateOf d (begin_slot m s)
slot_fits d s m few is next = record {
  moment = few;
  vars = is.vars;
  nets = is.nets;
  slots = is.slots;
  standings = length-map s.standings (standing_in_slot m) ∙ is.standings;
  work = is.work;
  locals = is.locals;
  locals_filled = is.locals_filled;
  fresh = is.fresh;
  evaluations = is.evaluations;
  resolutions = is.resolutions;
  procs = λ p proc at. let x = is.procs p proc at in record { work = x.work; standing = subst (λ (standing : Standing). StandingFits m (work_at s p) standing) (sym (place_mapped (standing_in_slot m) refl s.standings p)) (arrived_fits s.moment m (work_at s p) (standing_at s p) (λ k there. least s.standings m p k next there) x.standing) };
  nonblocking = is.nonblocking;
  moved = is.moved;
}

pub move_keeps : MoveKeeps
move_keeps until d s t most design is calm h = of_inactive (has_inactive s) h
  where
    within : (m : ℕ) → nat_le m until ≡ true → m ≤ 2 ^ 48
    within m h = let low : m ≤ until = grind (arith, nat_tests) in omega (arith, low, most)

    of_limit : (m : ℕ) → next_moment s.standings ≡ Some m → (may : Bool) → nat_le m until ≡ may → (if may then Some (begin_slot m s) else None) ≡ Some t → IsStateOf d t
    of_limit m at false may g = absurd (none_some t g)
    of_limit m at true may g = subst (IsStateOf d) (same_Some (begin_slot m s) t g) (slot_fits d s m (within m may) is at)

    of_next : (o : Option ℕ) → next_moment s.standings ≡ o → begin_next until s o ≡ Some t → IsStateOf d t
    of_next None at g = absurd (none_some t g)
    of_next (Some m) at g = of_limit m at (nat_le m until) refl g

    of_finish : (done : Bool) → (if done then None else begin_next until s (next_moment s.standings)) ≡ Some t → IsStateOf d t
    of_finish true g = absurd (none_some t g)
    of_finish false g = of_next (next_moment s.standings) refl g

    of_updates : (some : Bool) → (if some then Some (move_updates s) else (if s.finished then None else begin_next until s (next_moment s.standings))) ≡ Some t → IsStateOf d t
    of_updates true g = subst (IsStateOf d) (same_Some (move_updates s) t g) (updates_fit d s is)
    of_updates false g = of_finish s.finished g

    of_inactive : (some : Bool) → (if some then Some (activate s) else (if is_some_put s.nonblocking then Some (move_updates s) else (if s.finished then None else begin_next until s (next_moment s.standings)))) ≡ Some t → IsStateOf d t
    of_inactive true g = subst (IsStateOf d) (same_Some (activate s) t g) (activate_fits d s is)
    of_inactive false g = of_updates (is_some_put s.nonblocking) g
