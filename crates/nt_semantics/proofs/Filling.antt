-- One move makes Active not empty.
use Rattle.std.proofs.Common.{◌≡◌, ℕ, Bool, true, false, ◌||◌, ◌==◌, if◌then◌else◌, List, [], ◌∷◌, map, refl, sym, subst, ◌∙◌, arith, inl, inr}
use Rattle.std.specs.Prelude.{◌⊎◌, Option, Some, None, min, nat_le, nat_lt}
use Rattle.std.specs.List.{list_any}
use Rattle.std.proofs.lemmas.Bool.{eq-eqb, cases_lt}
use Rattle.std.proofs.lemmas.Option.{same_Some}
use Rattle.nt_semantics.specs.Execution.{is_active, has_inactive, is_inactive, active_standing, activate, move_updates, begin_slot, begin_next, next_moment, sooner, standing_in_slot}
use Rattle.nt_semantics.specs.Laws.{MoveFills}
use Rattle.nt_semantics.specs.State.{MachineState}
use Rattle.nt_semantics.specs.declared.standing.Standing.{Standing}
use Rattle.nt_semantics.specs.declared.standing.Standing.TheVariants.{Unbegun, Ready, Inactive, Later, Waits, Over}
use Rattle.nt_semantics.specs.Step.{is_pending_at, is_some_put}

pub true_not : false ≡ true → ⊥
true_not h = cc

pub none_some : (t : MachineState) → None ≡ Some t → ⊥
none_some t h = cc

or_right : (b c : Bool) → c ≡ true → (b || c) ≡ true
or_right true c h = refl
or_right false c h = h

or_left : (b c : Bool) → b ≡ true → (b || c) ≡ true
or_left true c h = refl
or_left false c h = absurd (true_not h)

-- a procedure that was Inactive is ready
activated_pending : (t : MachineState) (places : List Standing) → list_any is_inactive places ≡ true → list_any (is_pending_at t) (map active_standing places) ≡ true
activated_pending t [] h = h
activated_pending t (Inactive ∷ places) h = refl
activated_pending t (Ready ∷ places) h = refl
activated_pending t (Unbegun ∷ places) h =
    or_right (is_pending_at t Unbegun) (list_any (is_pending_at t) (map active_standing places)) (activated_pending t places h)
activated_pending t (Later at ∷ places) h = activated_pending t places h
activated_pending t (Waits kept ∷ places) h = activated_pending t places h
activated_pending t (Over ∷ places) h = activated_pending t places h

-- ---- the least later moment
abbrev pub is_at : ℕ → Standing → Bool
is_at moment (Later at) = at == moment
is_at moment _ = false

none_some_number : (m : ℕ) → None ≡ Some m → ⊥
none_some_number m h = cc

min_cases : (a b : ℕ) → (min a b ≡ a) ⊎ (min a b ≡ b)
min_cases a b = elim (cases_lt a b) [ inl e ↦ inl (omega (arith, e)) | inr e ↦ inr (omega (arith, e)) ]

-- it is the moment of some procedure
pub is_of_some : (places : List Standing) (m : ℕ) → next_moment places ≡ Some m → list_any (is_at m) places ≡ true
is_of_some [] m h = absurd (none_some_number m h)
is_of_some (Unbegun ∷ places) m h = is_of_some places m h
is_of_some (Ready ∷ places) m h = is_of_some places m h
is_of_some (Inactive ∷ places) m h = is_of_some places m h
is_of_some (Waits kept ∷ places) m h = is_of_some places m h
is_of_some (Over ∷ places) m h = is_of_some places m h
is_of_some (Later at ∷ places) m h = of_rest (next_moment places) (λ k r. is_of_some places k r) refl h
  where
    of_rest : (o : Option ℕ) → ((k : ℕ) → next_moment places ≡ Some k → list_any (is_at k) places ≡ true) → next_moment places ≡ o → sooner (Later at) o ≡ Some m → (at == m || list_any (is_at m) places) ≡ true
    of_rest None later is h =
        or_left (at == m) (list_any (is_at m) places) (eq-eqb at m (same_Some at m h))
    of_rest (Some k) later is h = of_least (min_cases at k) (same_Some (min at k) m h)
      where
        of_least : ((min at k ≡ at) ⊎ (min at k ≡ k)) → min at k ≡ m → (at == m || list_any (is_at m) places) ≡ true
        of_least (inl e) g = or_left (at == m) (list_any (is_at m) places) (eq-eqb at m (sym e ∙ g))
        of_least (inr e) g =
            or_right (at == m) (list_any (is_at m) places) (subst (λ j. list_any (is_at j) places ≡ true) (sym e ∙ g) (later k is))

-- and that procedure is ready when its slot begins
arrived_pending : (t : MachineState) (m : ℕ) (places : List Standing) → list_any (is_at m) places ≡ true → list_any (is_pending_at t) (map (standing_in_slot m) places) ≡ true
arrived_pending t m [] h = h
arrived_pending t m (Ready ∷ places) h = refl
arrived_pending t m (Unbegun ∷ places) h =
    or_right (is_pending_at t Unbegun) (list_any (is_pending_at t) (map (standing_in_slot m) places)) (arrived_pending t m places h)
arrived_pending t m (Inactive ∷ places) h = arrived_pending t m places h
arrived_pending t m (Waits kept ∷ places) h = arrived_pending t m places h
arrived_pending t m (Over ∷ places) h = arrived_pending t m places h
arrived_pending t m (Later at ∷ places) h = of_test (λ g. arrived_pending t m places g) (at == m) h
  where
    of_test : (list_any (is_at m) places ≡ true → list_any (is_pending_at t) (map (standing_in_slot m) places) ≡ true) → (is : Bool) → (is || list_any (is_at m) places) ≡ true → (is_pending_at t (if is then Ready else Later at) || list_any (is_pending_at t) (map (standing_in_slot m) places)) ≡ true
    of_test rest true g = refl
    of_test rest false g = rest g

-- ---- the move
begun : (until : ℕ) (s t : MachineState) (o : Option ℕ) → next_moment s.standings ≡ o → begin_next until s o ≡ Some t → list_any (is_pending_at t) t.standings ≡ true
begun until s t None is h = absurd (none_some t h)
begun until s t (Some m) is h = of_limit (nat_le m until) h
  where
    of_limit : (may : Bool) → (if may then Some (begin_slot m s) else None) ≡ Some t → list_any (is_pending_at t) t.standings ≡ true
    of_limit false g = absurd (none_some t g)
    of_limit true g =
        subst (λ (u : MachineState). list_any (is_pending_at u) u.standings ≡ true) (same_Some (begin_slot m s) t g) (arrived_pending (begin_slot m s) m s.standings (is_of_some s.standings m is))

updates_moved : (t : MachineState) → is_some_put t.moved ≡ true → is_active t ≡ true
unfolding is_active
updates_moved t h =
    or_right (list_any (is_pending_at t) t.standings) _ (or_right (list_any (nat_lt 0) t.evaluations) _ (or_right (list_any (nat_lt 0) t.resolutions) (is_some_put t.moved) h))

places_ready : (t : MachineState) → list_any (is_pending_at t) t.standings ≡ true → is_active t ≡ true
unfolding is_active
places_ready t h = or_left (list_any (is_pending_at t) t.standings) _ h

pub move_fills : MoveFills
move_fills until s t h = of_inactive (has_inactive s) refl h
  where
    of_finish : (done : Bool) → (if done then None else begin_next until s (next_moment s.standings)) ≡ Some t → is_active t ≡ true
    of_finish true g = absurd (none_some t g)
    of_finish false g = places_ready t (begun until s t (next_moment s.standings) refl g)

    of_updates : (some : Bool) → is_some_put s.nonblocking ≡ some → (if some then Some (move_updates s) else (if s.finished then None else begin_next until s (next_moment s.standings))) ≡ Some t → is_active t ≡ true
    of_updates true is g =
        subst (λ (u : MachineState). is_active u ≡ true) (same_Some (move_updates s) t g) (updates_moved (move_updates s) is)
    of_updates false is g = of_finish s.finished g

    of_inactive : (some : Bool) → has_inactive s ≡ some → (if some then Some (activate s) else (if is_some_put s.nonblocking then Some (move_updates s) else (if s.finished then None else begin_next until s (next_moment s.standings)))) ≡ Some t → is_active t ≡ true
    of_inactive true is g =
        subst (λ (u : MachineState). is_active u ≡ true) (same_Some (activate s) t g) (places_ready (activate s) (activated_pending (activate s) s.standings is))
    of_inactive false is g = of_updates (is_some_put s.nonblocking) refl g
