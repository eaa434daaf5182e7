-- How many copies of an event a state of nets and constants can have in Active.
use Rattle.std.proofs.Common.{◌≡◌, ℕ, zero, suc, ◌+◌, ◌≤◌, Bool, true, false, if◌then◌else◌, List, [], ◌∷◌, length, replicate, Some, sym, ◌∙◌, ap, subst, arith}
use Rattle.std.proofs.lemmas.Option.{none-some}
use Rattle.nt_design.specs.declared.design.Design.{Design}
use Rattle.nt_design.specs.Plain.{IsPlain}
use Rattle.nt_machine.specs.Plain.{IsPlainState}
use Rattle.nt_semantics.specs.Same.{is_same}
use Rattle.nt_semantics.specs.State.{MachineState, start_state, standing_at, value_at, count_at, more, fewer}
use Rattle.nt_semantics.specs.StateFits.{AtMost}
use Rattle.nt_semantics.specs.Step.{step, is_pending_at}
use Rattle.nt_semantics.specs.declared.event.Event.{Event}
use Rattle.nt_semantics.specs.declared.event.Event.TheVariants.{Stmt, Assign as AssignEvent, Update, Resolve}
use Rattle.nt_machine.proofs.Moves.{step_still}
use Rattle.nt_machine.proofs.Steps.{evaluated_to, resolved_to, no_statement, no_update}

more_counts : (counts : List ℕ) (i k : ℕ) → count_at (more counts i) k ≤ count_at counts k + 1
more_counts [] i k = omega arith
more_counts (x ∷ xs) zero zero = omega arith
more_counts (x ∷ xs) zero (suc k) = omega arith
more_counts (x ∷ xs) (suc i) zero = omega arith
more_counts (x ∷ xs) (suc i) (suc k) = more_counts xs i k

fewer_counts : (counts : List ℕ) (i k : ℕ) → count_at (fewer 1 counts i) k ≤ count_at counts k
fewer_counts [] i k = omega arith
fewer_counts (x ∷ xs) zero zero = omega arith
fewer_counts (x ∷ xs) zero (suc k) = omega arith
fewer_counts (x ∷ xs) (suc i) zero = omega arith
fewer_counts (x ∷ xs) (suc i) (suc k) = fewer_counts xs i k

ones : (n k : ℕ) → count_at (replicate n 1) k ≤ 1
ones zero k = omega arith
ones (suc n) zero = omega arith
ones (suc n) (suc k) = ones n k

one_or_none : (b : Bool) → (if b then 1 else 0) ≤ 1
one_or_none true = omega arith
one_or_none false = omega arith

-- a bound on evaluations and resolutions is one on all events, where no other is in Active
pub at_most_counts : (most : ℕ) (s : MachineState) → 1 ≤ most → IsPlainState s → ((a : ℕ) → count_at s.evaluations a ≤ most) → ((n : ℕ) → count_at s.resolutions n ≤ most) → AtMost most s
at_most_counts most s one still evaluations resolutions (Stmt p) =
    omega (arith, one, one_or_none (is_pending_at s (standing_at s p)))
at_most_counts most s one still evaluations resolutions (AssignEvent a) = evaluations a
at_most_counts most s one still evaluations resolutions Update = let e = ap length still.moved in omega (arith, e)
at_most_counts most s one still evaluations resolutions (Resolve n order) = resolutions n

-- each event is there once at the start
pub start_at_most : (d : Design) → AtMost 1 (start_state d)
start_at_most d (Stmt p) = one_or_none (is_pending_at (start_state d) (standing_at (start_state d) p))
start_at_most d (AssignEvent a) = ones (length d.assigns) a
start_at_most d Update = omega arith
start_at_most d (Resolve n order) = ones (length d.nets) n

-- an event adds one copy at most
pub step_at_most : (d : Design) (s t : MachineState) (e : Event) (most : ℕ) → IsPlain d → IsPlainState s → step d s e ≡ Some t → AtMost most s → AtMost (most + 1) t
step_at_most d s t e most plain still h few =
    at_most_counts (most + 1) t (omega arith) (step_still d s t e plain still h) (evaluations e h) (resolutions e h)
  where
    marked : (b : Bool) (n k : ℕ) → count_at (if b then s.resolutions else more s.resolutions n) k ≤ most + 1
    marked true n k = omega (arith, few (Resolve k []))
    marked false n k = omega (arith, more_counts s.resolutions n k, few (Resolve k []))

    same_evaluations : (u : MachineState) (counts : List ℕ) (k : ℕ) → u.evaluations ≡ counts → count_at counts k ≤ most + 1 → count_at u.evaluations k ≤ most + 1
    same_evaluations u counts k is below = subst (λ l. count_at l k ≤ most + 1) (sym is) below

    same_resolutions : (u : MachineState) (counts : List ℕ) (k : ℕ) → u.resolutions ≡ counts → count_at counts k ≤ most + 1 → count_at u.resolutions k ≤ most + 1
    same_resolutions u counts k is below = subst (λ l. count_at l k ≤ most + 1) (sym is) below

    evaluations : (e : Event) → step d s e ≡ Some t → (k : ℕ) → count_at t.evaluations k ≤ most + 1
    evaluations (AssignEvent a) h k =
        let to = evaluated_to d s t a plain h in
        same_evaluations t (fewer 1 s.evaluations a) k (ap (λ (u : MachineState). u.evaluations) to.2) (omega (arith, fewer_counts s.evaluations a k, few (AssignEvent k)))
    evaluations (Resolve n order) h k =
        let to = resolved_to d s t n order plain still h in
        same_evaluations t s.evaluations k (ap (λ (u : MachineState). u.evaluations) to.1) (omega (arith, few (AssignEvent k)))
    evaluations (Stmt p) h k = absurd (none-some t (sym (no_statement d s p still) ∙ h))
    evaluations Update h k = absurd (none-some t (sym (no_update d s still) ∙ h))

    resolutions : (e : Event) → step d s e ≡ Some t → (k : ℕ) → count_at t.resolutions k ≤ most + 1
    resolutions (AssignEvent a) h k =
        let to = evaluated_to d s t a plain h in
        same_resolutions t _ k (ap (λ (u : MachineState). u.resolutions) to.2) (marked (is_same (value_at s.slots a) to.1) to.0 k)
    resolutions (Resolve n order) h k =
        let to = resolved_to d s t n order plain still h in
        same_resolutions t (fewer 1 s.resolutions n) k (ap (λ (u : MachineState). u.resolutions) to.1) (omega (arith, fewer_counts s.resolutions n k, few (Resolve k [])))
    resolutions (Stmt p) h k = absurd (none-some t (sym (no_statement d s p still) ∙ h))
    resolutions Update h k = absurd (none-some t (sym (no_update d s still) ∙ h))
