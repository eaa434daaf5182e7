-- What is right between rounds with one group is right after the next region and when the next slot begins, and both lead to
-- where they say.
use Rattle.std.specs.Prelude.{nat_le}
use Rattle.std.proofs.Common.{◌≡◌, inl, inr, ℕ, ◌<◌, ◌≤◌, ◌==◌, Bool, true, false, not, ◌&&◌, if◌then◌else◌, ◌^◌, List, [], ◌∷◌, length, map, filter, Option, Some, None, option_and_then, refl, sym, ◌∙◌, ap, subst, arith}
use Rattle.std.specs.List.{list_any}
use Rattle.std.proofs.lemmas.Bool.{false≢true, eqb-true, eq-eqb, leb-true}
use Rattle.std.proofs.lemmas.List.{get_or_past}
use Rattle.std.proofs.lemmas.Option.{same_Some}
use Rattle.nt_design.specs.WellFormed.{IsDesign}
use Rattle.nt_design.specs.declared.design.Design.{Design}
use Rattle.nt_design.specs.declared.put.Put.{Put}
use Rattle.nt_semantics.proofs.Begun.{is_unbegun, unbegun_before, unbegun_is}
use Rattle.nt_semantics.proofs.Bringing.{back_holds, times_away}
use Rattle.nt_semantics.proofs.Holding.{Kept, kept_after}
use Rattle.nt_semantics.proofs.Keeping.{activate_fits, place_mapped, slot_fits, updates_fit}
use Rattle.nt_semantics.proofs.Waking.{lt_or_le, none_some}
use Rattle.nt_semantics.specs.Execution.{active_standing, activate, begin_next, begin_slot, has_inactive, if_some, is_inactive, move_updates, next_moment, standing_in_slot, steps}
use Rattle.nt_semantics.specs.Groups.{processes, is_among}
use Rattle.nt_semantics.specs.Laws.{RegionKeepsFits, SlotKeepsFits}
use Rattle.nt_semantics.specs.ReadyLists.{Holds, RoundFits, Tied, UnbegunListed, has_begun, is_held, one_if, stands_listed}
use Rattle.nt_semantics.specs.Rounds.{RoundEnd, RoundState, after_activation, after_begin, combs, next_region, next_slot, perform, procs_at, update_round, with_new, with_woken, without_entries, woken}
use Rattle.nt_semantics.specs.State.{MachineState, standing_at}
use Rattle.nt_semantics.specs.Step.{is_some_put, may_begin, put_var, step, update_step}
use Rattle.nt_semantics.specs.Wake.{wake}
use Rattle.nt_semantics.specs.declared.event.Event.TheVariants.{Update}
use Rattle.nt_semantics.specs.declared.process.Process.{Process}
use Rattle.nt_semantics.specs.declared.process.Process.TheVariants.{Procedure, Assignment}
use Rattle.nt_semantics.specs.declared.standing.Standing.{Standing}
use Rattle.nt_semantics.specs.declared.standing.Standing.TheVariants.{Unbegun, Ready, Inactive, Later, Waits, Over}

second : (a b : Bool) → (a && b) ≡ true → b ≡ true
second true b h = h
second false b h = absurd (false≢true h)

-- ---- Inactive events become active
inactive_is : (a : Standing) → is_inactive a ≡ true → a ≡ Inactive
inactive_is Inactive h = refl
inactive_is Unbegun h = absurd (false≢true h)
inactive_is Ready h = absurd (false≢true h)
inactive_is (Later at) h = absurd (false≢true h)
inactive_is (Waits values) h = absurd (false≢true h)
inactive_is Over h = absurd (false≢true h)

active_stays : (a : Standing) → is_inactive a ≡ false → active_standing a ≡ a
active_stays Inactive h = absurd (false≢true (sym h))
active_stays Unbegun h = refl
active_stays Ready h = refl
active_stays (Later at) h = refl
active_stays (Waits values) h = refl
active_stays Over h = refl

same_unbegun : (a : Standing) → is_unbegun (active_standing a) ≡ is_unbegun a
same_unbegun Unbegun = refl
same_unbegun Ready = refl
same_unbegun Inactive = refl
same_unbegun (Later at) = refl
same_unbegun (Waits values) = refl
same_unbegun Over = refl

module _ (d : Design) (r : RoundState) (fits : RoundFits d r) (tied : Tied r.state r.away) where
  abbrev active_at : ℕ → Standing
  active_at p = standing_at (activate r.state) p

  moved_to : (p : ℕ) → active_at p ≡ active_standing (standing_at r.state p)
  moved_to p = place_mapped active_standing refl r.state.standings p

  inactive_there : (p : ℕ) → is_inactive (standing_at r.state p) ≡ true → p < length d.procs
  inactive_there p h = elim (lt_or_le p (length r.state.standings)) [
    | inl low ↦ omega (arith, low, fits.fits.standings)
    | inr past ↦ absurd (false≢true (ap is_inactive (sym (get_or_past r.state.standings p Over past)) ∙ h))
  ]

  activated : RoundFits d (after_activation (processes d ∷ []) r)
  activated = record {
    list = with_new fits.list (filter (is_among (processes d)) (map (λ p. Procedure p) r.away.inactive));
    is_list = ap (with_woken (processes d ∷ []) (map (λ p. Procedure p) r.away.inactive)) fits.is_list;
    holds = back_holds d (has_begun r) r.state (activate r.state) fits.list r.away.inactive (λ p. is_inactive (standing_at r.state p)) fits.holds refl (λ p. times_away p r.away.inactive (standing_at r.state p ≡ Inactive) (is_inactive (standing_at r.state p)) (tied.inactive_once p) (tied.inactive p) (inactive_is (standing_at r.state p)) (λ e. ap is_inactive e)) (λ p h. ap (stands_listed (has_begun r)) (moved_to p ∙ active_stays (standing_at r.state p) h)) (λ p h. (ap (stands_listed (has_begun r)) (inactive_is (standing_at r.state p) h), ap (stands_listed (has_begun r)) (moved_to p ∙ ap active_standing (inactive_is (standing_at r.state p) h)))) inactive_there;
    waiting = λ isnt p among. moved_to p ∙ ap active_standing (fits.waiting isnt p among);
    unbegun = λ p u. fits.unbegun p (unbegun_is (standing_at r.state p) (sym (same_unbegun (standing_at r.state p)) ∙ ap is_unbegun (sym (moved_to p) ∙ u)));
    moved = fits.moved;
    fits = activate_fits d r.state fits.fits;
  }

-- ---- a slot begins
abbrev is_at : ℕ → Standing → Bool
is_at m (Later at) = at == m
is_at m _ = false

at_is : (m : ℕ) (a : Standing) → is_at m a ≡ true → a ≡ Later m
at_is m (Later at) h = ap (λ k. Later k) (eqb-true at m h)
at_is m Inactive h = absurd (false≢true h)
at_is m Unbegun h = absurd (false≢true h)
at_is m Ready h = absurd (false≢true h)
at_is m (Waits values) h = absurd (false≢true h)
at_is m Over h = absurd (false≢true h)

slot_stays : (b : Bool) (m : ℕ) (a : Standing) → is_at m a ≡ false → stands_listed b (standing_in_slot m a) ≡ stands_listed b a
slot_stays b m (Later at) h = ap (λ c. stands_listed b (if c then Ready else Later at)) h
slot_stays b m Inactive h = refl
slot_stays b m Unbegun h = refl
slot_stays b m Ready h = refl
slot_stays b m (Waits values) h = refl
slot_stays b m Over h = refl

slot_unbegun : (m : ℕ) (a : Standing) → is_unbegun (standing_in_slot m a) ≡ is_unbegun a
slot_unbegun m (Later at) = of_test (at == m)
  where
    of_test : (c : Bool) → is_unbegun (if c then Ready else Later at) ≡ is_unbegun (Later at)
    of_test true = refl
    of_test false = refl
slot_unbegun m Inactive = refl
slot_unbegun m Unbegun = refl
slot_unbegun m Ready = refl
slot_unbegun m (Waits values) = refl
slot_unbegun m Over = refl

module _ (d : Design) (r : RoundState) (m : ℕ) (low : m ≤ 2 ^ 48) (next_is : next_moment r.state.standings ≡ Some m) (fits : RoundFits d r) (tied : Tied r.state r.away) where
  in_slot : (p : ℕ) → standing_at (begin_slot m r.state) p ≡ standing_in_slot m (standing_at r.state p)
  in_slot p = place_mapped (standing_in_slot m) refl r.state.standings p

  later_there : (p : ℕ) → is_at m (standing_at r.state p) ≡ true → p < length d.procs
  later_there p h = elim (lt_or_le p (length r.state.standings)) [
    | inl low ↦ omega (arith, low, fits.fits.standings)
    | inr past ↦ absurd (false≢true (ap (is_at m) (sym (get_or_past r.state.standings p Over past)) ∙ h))
  ]

  arrives : standing_in_slot m (Later m) ≡ Ready
  arrives = ap (λ (c : Bool). if c then Ready else Later m) (eq-eqb m m refl)

  slot_begun : RoundFits d (after_begin (processes d ∷ []) r (begin_slot m r.state))
  slot_begun = record {
    list = with_new fits.list (filter (is_among (processes d)) (map (λ p. Procedure p) (procs_at m r.away.later)));
    is_list = ap (with_woken (processes d ∷ []) (map (λ p. Procedure p) (procs_at m r.away.later))) fits.is_list;
    holds = back_holds d (has_begun r) r.state (begin_slot m r.state) fits.list (procs_at m r.away.later) (λ p. is_at m (standing_at r.state p)) fits.holds refl (λ p. times_away p (procs_at m r.away.later) (standing_at r.state p ≡ Later m) (is_at m (standing_at r.state p)) (tied.later_once m p) (tied.later m p) (at_is m (standing_at r.state p)) (λ e. ap (is_at m) e ∙ eq-eqb m m refl)) (λ p h. ap (stands_listed (has_begun r)) (in_slot p) ∙ slot_stays (has_begun r) m (standing_at r.state p) h) (λ p h. (ap (stands_listed (has_begun r)) (at_is m (standing_at r.state p) h), ap (stands_listed (has_begun r)) (in_slot p ∙ ap (standing_in_slot m) (at_is m (standing_at r.state p) h) ∙ arrives))) later_there;
    waiting = λ isnt p among. in_slot p ∙ ap (standing_in_slot m) (fits.waiting isnt p among);
    unbegun = λ p u. fits.unbegun p (unbegun_is (standing_at r.state p) (sym (slot_unbegun m (standing_at r.state p)) ∙ ap is_unbegun (sym (in_slot p) ∙ u)));
    moved = fits.moved;
    fits = slot_fits d r.state m low fits.fits next_is;
  }

pub slot_round_fits : SlotKeepsFits
unfolding next_slot
slot_round_fits until d r e limit fits tied h = of_finish r.state.finished h
  where
    of_state : Option MachineState → Option RoundEnd
    of_state o = if_some None (λ s. Some (without_entries (after_begin (processes d ∷ []) r s))) o

    within : (m : ℕ) → nat_le m until ≡ true → m ≤ 2 ^ 48
    within m h = let low : m ≤ until = leb-true m until h in omega (arith, low, limit)

    of_limit : (m : ℕ) → next_moment r.state.standings ≡ Some m → (b : Bool) → nat_le m until ≡ b → of_state (if b then Some (begin_slot m r.state) else None) ≡ Some e → RoundFits d e.after
    of_limit m at false may g = absurd (none_some e g)
    of_limit m at true may g =
        subst (λ (x : RoundEnd). RoundFits d x.after) (same_Some (without_entries (after_begin (processes d ∷ []) r (begin_slot m r.state))) e g) (slot_begun d r m (within m may) at fits tied)

    of_moment : (o : Option ℕ) → next_moment r.state.standings ≡ o → of_state (begin_next until r.state o) ≡ Some e → RoundFits d e.after
    of_moment None at g = absurd (none_some e g)
    of_moment (Some m) at g = of_limit m at (nat_le m until) refl g

    of_finish : (b : Bool) → (if b then None else of_state (begin_next until r.state (next_moment r.state.standings))) ≡ Some e → RoundFits d e.after
    of_finish true g = absurd (none_some e g)
    of_finish false g = of_moment (next_moment r.state.standings) refl g

-- ---- nonblocking updates
pub moved_same : (d : Design) (put : Put) (s : MachineState) → (put_var d put s).moved ≡ s.moved
unfolding put_var wake
moved_same d put s = refl

fresh_same : (d : Design) (put : Put) (s : MachineState) → (put_var d put s).fresh ≡ s.fresh
unfolding put_var wake
fresh_same d put s = refl

pub update_is : (d : Design) (s : MachineState) (put : Put) (puts : List Put) → s.moved ≡ put ∷ puts → step d s Update ≡ Some (put_var d put (record s { moved = puts }))
unfolding step
update_is d s put puts is = ap (update_step d s) is

-- what the updates leave
pub record Performed (d : Design) (b : Bool) (fresh : List Bool) (begun : Bool) (r : RoundState) : Type 0 where
  pub list : List Process
  pub is_list : r.ready ≡ list ∷ []
  pub kept : Kept d b r.state list
  pub unbegun : UnbegunListed r.state (combs d)
  pub moved : r.state.moved ≡ []
  pub fresh_is : r.state.fresh ≡ fresh
  pub begun_is : r.begun ≡ begun

module _ (d : Design) (design : IsDesign d) (b : Bool) (fresh : List Bool) (begun : Bool) where
  performed : (puts : List Put) (r : RoundState) (xs : List Process) → r.ready ≡ xs ∷ [] → Kept d b r.state xs → UnbegunListed r.state (combs d) → r.state.moved ≡ puts → r.state.fresh ≡ fresh → r.begun ≡ begun → Performed d b fresh begun (perform d (processes d ∷ []) puts r)
  performed [] r xs is_list kept unbegun moved is_fresh is_begun = record {
    list = xs;
    is_list = is_list;
    kept = kept;
    unbegun = unbegun;
    moved = moved;
    fresh_is = is_fresh;
    begun_is = is_begun;
  }
  performed (put ∷ puts) r xs is_list kept unbegun moved is_fresh is_begun =
      let t = put_var d put (record r.state { moved = puts }) in
      let here = update_is d r.state put puts moved in
      subst (λ (o : Option MachineState). Performed d b fresh begun (if_some r goes o)) (sym here) (performed puts (record r { state = t; ready = with_woken (processes d ∷ []) (woken d r.state t) r.ready }) (with_new xs (filter (is_among (processes d)) (woken d r.state t))) (ap (with_woken (processes d ∷ []) (woken d r.state t)) is_list) (kept_after d design b Update (λ p. tt) (λ a. tt) 1 r.state t (ap (option_and_then (steps d [])) here) xs kept) (λ p u. unbegun p (unbegun_before d r.state t Update p here u)) (moved_same d put (record r.state { moved = puts })) (fresh_same d put (record r.state { moved = puts }) ∙ is_fresh) is_begun)
    where
      goes : MachineState → RoundState
      goes t = perform d (processes d ∷ []) puts (record r { state = t; ready = with_woken (processes d ∷ []) (woken d r.state t) r.ready })

module _ (d : Design) (design : IsDesign d) (r : RoundState) (fits : RoundFits d r) where
  moved_held : (y : Process) → is_held (has_begun r) (move_updates r.state) y ≡ is_held (has_begun r) r.state y
  moved_held (Procedure p) = refl
  moved_held (Assignment a) = refl

  kept_moved : Kept d (has_begun r) (move_updates r.state) fits.list
  kept_moved = record {
    holds = λ y. fits.holds y ∙ ap one_if (sym (moved_held y));
    begins = second r.begun (may_begin r.state);
    waiting = fits.waiting;
    fits = updates_fit d r.state fits.fits;
  }

  pub updates_done : Performed d (has_begun r) r.state.fresh r.begun (update_round d (processes d ∷ []) r).after
  updates_done =
      performed d design (has_begun r) r.state.fresh r.begun r.state.nonblocking (record r { state = move_updates r.state }) fits.list fits.is_list kept_moved fits.unbegun refl refl refl

  same_begun : has_begun (update_round d (processes d ∷ []) r).after ≡ has_begun r
  same_begun =
      ap (λ c. c && may_begin (update_round d (processes d ∷ []) r).after.state) updates_done.begun_is ∙ ap (λ (l : List Bool). r.begun && not (list_any (λ f. f) l)) updates_done.fresh_is

  updated : RoundFits d (update_round d (processes d ∷ []) r).after
  updated = record {
    list = updates_done.list;
    is_list = updates_done.is_list;
    holds = subst (λ c. Holds c (update_round d (processes d ∷ []) r).after.state updates_done.list) (sym same_begun) updates_done.kept.holds;
    waiting = λ isnt. updates_done.kept.waiting (sym same_begun ∙ isnt);
    unbegun = updates_done.unbegun;
    moved = updates_done.moved;
    fits = updates_done.kept.fits;
  }

pub region_round_fits : RegionKeepsFits
unfolding next_region
region_round_fits d r e design fits tied h = of_inactive (has_inactive r.state) h
  where
    of_updates : (b : Bool) → (if b then Some (update_round d (processes d ∷ []) r) else None) ≡ Some e → RoundFits d e.after
    of_updates false g = absurd (none_some e g)
    of_updates true g =
        subst (λ (x : RoundEnd). RoundFits d x.after) (same_Some (update_round d (processes d ∷ []) r) e g) (updated d design r fits)

    of_inactive : (b : Bool) → (if b then Some (without_entries (after_activation (processes d ∷ []) r)) else (if is_some_put r.state.nonblocking then Some (update_round d (processes d ∷ []) r) else None)) ≡ Some e → RoundFits d e.after
    of_inactive true g =
        subst (λ (x : RoundEnd). RoundFits d x.after) (same_Some (without_entries (after_activation (processes d ∷ []) r)) e g) (activated d r fits tied)
    of_inactive false g = of_updates (is_some_put r.state.nonblocking) g
