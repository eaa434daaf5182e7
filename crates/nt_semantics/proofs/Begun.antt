-- Before its first step is a procedure that was so.
use Rattle.std.proofs.Common.{◌≡◌, inl, inr, ℕ, zero, suc, ◌==◌, Bool, true, false, ◌||◌, List, [], ◌∷◌, ◌++◌, length, get_or, slice_set, Option, Some, None, option_and_then, refl, sym, ◌∙◌, ap, arith, length-set, get_or-set_same}
use Rattle.std.proofs.lemmas.Bool.{false≢true, eqb-true, eq-eqb}
use Rattle.std.proofs.lemmas.List.{get_or_past}
use Rattle.std.proofs.lemmas.Option.{same_Some}
use Rattle.nt_design.specs.declared.design.Design.{Design}
use Rattle.nt_semantics.proofs.Waking.{deed_stands, lt_or_le, none_some, of_test, of_turns, others_stay}
use Rattle.nt_semantics.specs.Execution.{steps}
use Rattle.nt_semantics.specs.ReadyLists.{StandsOn, is_live}
use Rattle.nt_semantics.specs.State.{MachineState, going_on, locals_at, standing_at, work_at}
use Rattle.nt_semantics.specs.Step.{do_deed, finishes, is_pending_at, lines_shown, locals_after, make_step, proc_step, standing_after_deed, step, updates_of}
use Rattle.nt_semantics.specs.declared.deed.Deed.{Deed}
use Rattle.nt_semantics.specs.declared.deed.Deed.TheVariants as deed
use Rattle.nt_semantics.specs.declared.event.Event.{Event}
use Rattle.nt_semantics.specs.declared.event.Event.TheVariants.{Stmt, Assign as AssignEvent, Update, Resolve}
use Rattle.nt_semantics.specs.declared.standing.Standing.{Standing}
use Rattle.nt_semantics.specs.declared.standing.Standing.TheVariants.{Unbegun, Ready, Inactive, Later, Waits, Over}
use Rattle.nt_semantics.specs.declared.work.Work.{Work}
use Rattle.nt_semantics.specs.declared.work.Work.TheVariants.{Do, Testing, Stepping, Repeating, Counting, Each, Awaiting}

-- ---- before the first step
abbrev pub is_unbegun : Standing → Bool
is_unbegun Unbegun = true
is_unbegun _ = false

pub unbegun_is : (a : Standing) → is_unbegun a ≡ true → a ≡ Unbegun
unbegun_is Unbegun h = refl
unbegun_is Ready h = absurd (false≢true h)
unbegun_is Inactive h = absurd (false≢true h)
unbegun_is (Later at) h = absurd (false≢true h)
unbegun_is (Waits values) h = absurd (false≢true h)
unbegun_is Over h = absurd (false≢true h)

going_begun : (items : List Work) → is_unbegun (going_on items) ≡ false
going_begun [] = refl
going_begun (Awaiting reads body ∷ items) = refl
going_begun (Do a ∷ items) = refl
going_begun (Testing test step body ∷ items) = refl
going_begun (Stepping test step body ∷ items) = refl
going_begun (Repeating body ∷ items) = refl
going_begun (Counting n body ∷ items) = refl
going_begun (Each left bounds i body ∷ items) = refl

deed_begun : (moment : ℕ) (x : Deed) (items : List Work) → is_unbegun (standing_after_deed moment x items) ≡ false
deed_begun moment (deed.Delays zero) items = refl
deed_begun moment (deed.Delays (suc n)) items = refl
deed_begun moment (deed.Waits kept) items = refl
deed_begun moment deed.GoesOn items = going_begun items
deed_begun moment (deed.Writes put) items = going_begun items
deed_begun moment (deed.Schedules put) items = going_begun items
deed_begun moment (deed.SetsLocal local value) items = going_begun items
deed_begun moment (deed.Displays line) items = going_begun items
deed_begun moment deed.Finishes items = going_begun items

set_begun : (standings : List Standing) (p : ℕ) (new : Standing) → is_unbegun new ≡ false → get_or (slice_set standings p new) p Over ≡ Unbegun → ⊥
set_begun standings p new begun h = elim (lt_or_le p (length standings)) [
  | inl low ↦ false≢true (sym begun ∙ ap is_unbegun (sym (get_or-set_same standings p new Over low) ∙ h))
  | inr past ↦ (let long = length-set standings p new in false≢true (ap is_unbegun (sym (get_or_past (slice_set standings p new) p Over (omega (arith, past, long))) ∙ h)))
]

-- a procedure that made a step has begun
made_begun : (d : Design) (p : ℕ) (s : MachineState) (x : Deed × List Work) → standing_at (make_step d p s x) p ≡ Unbegun → ⊥
unfolding make_step
made_begun d p s x h = of_deed (deed_stands d x.0 _ p)
  where
    of_deed : StandsOn (get_or (slice_set s.standings p (standing_after_deed s.moment x.0 x.1)) p Over) (standing_at (do_deed d x.0 (record s { standings = slice_set s.standings p (standing_after_deed s.moment x.0 x.1); work = slice_set s.work p x.1; locals = slice_set s.locals p (locals_after x.0 (locals_at s p)); fresh = slice_set s.fresh p false; nonblocking = s.nonblocking ++ updates_of x.0; shown = s.shown ++ lines_shown p x.0; finished = s.finished || finishes x.0 })) p) → ⊥
    of_deed (inl same) =
        set_begun s.standings p (standing_after_deed s.moment x.0 x.1) (deed_begun s.moment x.0 x.1) (sym same ∙ h)
    of_deed (inr woken) = false≢true (ap is_live (sym h) ∙ woken.1)

own_begun : (d : Design) (p : ℕ) (s t : MachineState) (items : List Work) → proc_step d p s items ≡ Some t → standing_at t p ≡ Unbegun → ⊥
own_begun d p s t [] h = absurd (none_some t h)
own_begun d p s t (i ∷ rest) h =
    let x = of_turns (make_step d p s) _ t h in
    λ u. made_begun d p s x.0 (ap (λ y. standing_at y p) x.1 ∙ u)

pub step_begun : (d : Design) (p : ℕ) (s t : MachineState) → step d s (Stmt p) ≡ Some t → standing_at t p ≡ Unbegun → ⊥
unfolding step
step_begun d p s t h =
    own_begun d p s t (work_at s p) (of_test (is_pending_at s (standing_at s p)) (proc_step d p s (work_at s p)) t h)

-- a procedure that is before its first step was so
pub unbegun_before : (d : Design) (s t : MachineState) (e : Event) (p : ℕ) → step d s e ≡ Some t → standing_at t p ≡ Unbegun → standing_at s p ≡ Unbegun
unbegun_before d s t (Stmt q) p h u = of_test_same (p == q) refl
  where
    of_test_same : (b : Bool) → (p == q) ≡ b → standing_at s p ≡ Unbegun
    of_test_same true is =
        absurd (step_begun d p s t (ap (λ k. step d s (Stmt k)) (eqb-true p q is) ∙ h) u)
    of_test_same false is =
        sym (others_stay d s t (Stmt q) p (λ e. false≢true (sym is ∙ eq-eqb p q (sym e))) h (ap is_live u)) ∙ u
unbegun_before d s t (AssignEvent a) p h u = sym (others_stay d s t (AssignEvent a) p tt h (ap is_live u)) ∙ u
unbegun_before d s t Update p h u = sym (others_stay d s t Update p tt h (ap is_live u)) ∙ u
unbegun_before d s t (Resolve n order) p h u = sym (others_stay d s t (Resolve n order) p tt h (ap is_live u)) ∙ u

pub steps_before : (d : Design) (es : List Event) (s t : MachineState) (p : ℕ) → steps d es s ≡ Some t → standing_at t p ≡ Unbegun → standing_at s p ≡ Unbegun
steps_before d [] s t p h u = ap (λ x. standing_at x p) (same_Some s t h) ∙ u
steps_before d (e ∷ es) s t p h u = of_step (λ v g. steps_before d es v t p g u) (step d s e) refl h
  where
    of_step : ((v : MachineState) → steps d es v ≡ Some t → standing_at v p ≡ Unbegun) → (o : Option MachineState) → step d s e ≡ o → option_and_then (steps d es) o ≡ Some t → standing_at s p ≡ Unbegun
    of_step rest None is g = absurd (none_some t g)
    of_step rest (Some v) is g = unbegun_before d s v e p is (rest v g)
