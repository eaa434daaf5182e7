-- Moves of states of nets and constants, which have nowhere to move, and the slots that end in their executions.
use Rattle.std.proofs.Common.{◌≡◌, ℕ, zero, suc, Bool, true, false, ◌||◌, ◌&&◌, not, nat_lt, if◌then◌else◌, List, [], ◌∷◌, ◌++◌, Option, Some, None, option_and_then, unwrap_or, is_some, refl, sym, ◌∙◌, ap, subst}
use Rattle.std.specs.List.{list_any}
use Rattle.std.proofs.lemmas.Bool.{false≢true}
use Rattle.std.proofs.lemmas.Option.{same_Some, none-some}
use Rattle.nt_design.specs.declared.design.Design.{Design}
use Rattle.nt_semantics.specs.State.{MachineState, count_at}
use Rattle.nt_semantics.specs.Step.{step, is_pending_at, is_some_put}
use Rattle.nt_semantics.specs.Execution.{settle, move, is_active, is_inactive, has_inactive, activate, move_updates, begin_next, next_moment, run, ended, seen, if_some, observation_of}
use Rattle.nt_design.specs.Plain.{IsPlain}
use Rattle.nt_machine.specs.Plain.{IsPlainState}
use Rattle.nt_semantics.specs.declared.event.Event.{Event}
use Rattle.nt_semantics.specs.declared.event.Event.TheVariants.{Stmt, Assign as AssignEvent, Update, Resolve}
use Rattle.nt_machine.proofs.Steps.{evaluates, resolves, evaluated_to, resolved_to, driven_still, published_still, no_statement, no_update}

if_same : {A : Type 0} (b : Bool) (x : A) → (if b then x else x) ≡ x
if_same true x = refl
if_same false x = refl

pub no_move : (until : ℕ) (s : MachineState) → IsPlainState s → move until s ≡ None
no_move until s still =
    ap (λ p. if list_any is_inactive p then Some (activate s) else (if is_some_put s.nonblocking then Some (move_updates s) else (if s.finished then None else begin_next until s (next_moment p)))) still.standings
    ∙ ap (λ puts. if is_some_put puts then Some (move_updates s) else (if s.finished then None else begin_next until s None)) still.nonblocking
    ∙ ap (λ b. if b then None else begin_next until s None) still.finished

pub settled : (until : ℕ) (s : MachineState) → IsPlainState s → settle until s ≡ s
unfolding settle
settled until s still =
    ap (λ o. if is_active s then s else unwrap_or o s) (no_move until s still) ∙ if_same (is_active s) s

-- what each event keeps
pub step_still : (d : Design) (s t : MachineState) (e : Event) → IsPlain d → IsPlainState s → step d s e ≡ Some t → IsPlainState t
step_still d s t (Stmt p) plain still h = absurd (none-some t (sym (no_statement d s p still) ∙ h))
step_still d s t (AssignEvent a) plain still h =
    let to = evaluated_to d s t a plain h in subst IsPlainState (sym to.2) (driven_still s a to.0 to.1 still)
step_still d s t Update plain still h = absurd (none-some t (sym (no_update d s still) ∙ h))
step_still d s t (Resolve n order) plain still h =
    let to = resolved_to d s t n order plain still h in subst IsPlainState (sym to.1) (published_still s n to.0 still)

or_left : (a b : Bool) → a ≡ true → (a || b) ≡ true
or_left true b h = refl
or_left false b h = absurd (false≢true h)

or_right : (a b : Bool) → b ≡ true → (a || b) ≡ true
or_right true b h = refl
or_right false b h = h

any_count : (counts : List ℕ) (i : ℕ) → nat_lt 0 (count_at counts i) ≡ true → list_any (nat_lt 0) counts ≡ true
any_count [] i h = absurd (false≢true h)
any_count (n ∷ counts) zero h = or_left (nat_lt 0 n) (list_any (nat_lt 0) counts) h
any_count (n ∷ counts) (suc i) h = or_right (nat_lt 0 n) (list_any (nat_lt 0) counts) (any_count counts i h)

-- only an active state has a step
pub acts : (d : Design) (s t : MachineState) (e : Event) → IsPlainState s → step d s e ≡ Some t → is_active s ≡ true
unfolding is_active
acts d s t (Stmt p) still h = absurd (none-some t (sym (no_statement d s p still) ∙ h))
acts d s t (AssignEvent a) still h =
    let x = evaluates d s a (ap (λ (o : Option MachineState). is_some o) h) in
    or_right (list_any (is_pending_at s) s.standings) _ (or_left (list_any (nat_lt 0) s.evaluations) _ (any_count s.evaluations a x.active))
acts d s t Update still h = absurd (none-some t (sym (no_update d s still) ∙ h))
acts d s t (Resolve n order) still h =
    let x = resolves d s n order (ap (λ (o : Option MachineState). is_some o) h) in
    or_right (list_any (is_pending_at s) s.standings) _ (or_right (list_any (nat_lt 0) s.evaluations) _ (or_left (list_any (nat_lt 0) s.resolutions) _ (any_count s.resolutions n x.active)))

-- an active slot has not ended
unseen : (s : MachineState) → is_active s ≡ true → seen s ≡ []
unseen s h = ap (λ b. if not b && (not (has_inactive s) && not (is_some_put s.nonblocking)) then observation_of s ∷ [] else []) h

after_some : {A B : Type 0} (f : A → Option B) (o : Option A) (b : B) → option_and_then f o ≡ Some b → (a : A) × (o ≡ Some a) × (f a ≡ Some b)
after_some f None b h = absurd (none-some b h)
after_some f (Some a) b h = (a, refl, h)

-- the slot ends where the execution does, if at all
pub ended_last : (until : ℕ) (d : Design) (es : List Event) (s t : MachineState) → IsPlain d → IsPlainState s → run until d es s ≡ Some t → ended until d es s ≡ seen t
ended_last until d [] s t plain still h = ap seen (same_Some s t h)
ended_last until d (e ∷ es) s t plain still h =
    let at = after_some (run until d es) (step d (settle until s) e) t h in
    let stepped : step d s e ≡ Some at.0 = ap (λ x. step d x e) (sym (settled until s still)) ∙ at.1 in
    let rest = ended_last until d es at.0 t plain (step_still d s at.0 e plain still stepped) at.2 in
    ap (λ l. l ++ if_some [] (ended until d es) (step d (settle until s) e)) (unseen s (acts d s at.0 e still stepped)) ∙ ap (if_some [] (ended until d es)) at.1 ∙ rest

pub run_still : (until : ℕ) (d : Design) (es : List Event) (s t : MachineState) → IsPlain d → IsPlainState s → run until d es s ≡ Some t → IsPlainState t
run_still until d [] s t plain still h = subst IsPlainState (same_Some s t h) still
run_still until d (e ∷ es) s t plain still h =
    let at = after_some (run until d es) (step d (settle until s) e) t h in
    let stepped : step d s e ≡ Some at.0 = ap (λ x. step d x e) (sym (settled until s still)) ∙ at.1 in
    run_still until d es at.0 t plain (step_still d s at.0 e plain still stepped) at.2
