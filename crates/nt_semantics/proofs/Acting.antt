-- Only a state with something in Active has a step.
use Rattle.std.proofs.Common.{◌≡◌, ℕ, zero, suc, Bool, true, false, ◌||◌, nat_lt, List, [], ◌∷◌, get_or, Option, Some, None, refl, sym, ◌∙◌}
use Rattle.std.specs.List.{list_any}
use Rattle.std.proofs.lemmas.Bool.{false≢true}
use Rattle.nt_design.specs.declared.design.Design.{Design}
use Rattle.nt_semantics.specs.Execution.{is_active}
use Rattle.nt_semantics.specs.State.{MachineState, standing_at, count_at}
use Rattle.nt_semantics.specs.declared.standing.Standing.TheVariants.{Over}
use Rattle.nt_semantics.specs.Step.{step, only_if, update_step, is_pending_at, is_some_put}
use Rattle.nt_design.specs.declared.put.Put.{Put}
use Rattle.nt_semantics.specs.declared.event.Event.{Event}
use Rattle.nt_semantics.specs.declared.event.Event.TheVariants.{Stmt, Assign as AssignEvent, Update, Resolve}

none_some : {A : Type 0} (x : A) → None ≡ Some x → ⊥
none_some x h = cc

or_left : (a b : Bool) → a ≡ true → (a || b) ≡ true
or_left true b h = refl
or_left false b h = absurd (false≢true h)

or_right : (a b : Bool) → b ≡ true → (a || b) ≡ true
or_right true b h = refl
or_right false b h = h

any_at : {A : Type 0} (test : A → Bool) (past : A) (xs : List A) (i : ℕ) → test past ≡ false → test (get_or xs i past) ≡ true → list_any test xs ≡ true
any_at test past [] i none h = absurd (false≢true (sym none ∙ h))
any_at test past (x ∷ xs) zero none h = or_left (test x) (list_any test xs) h
any_at test past (x ∷ xs) (suc i) none h = or_right (test x) (list_any test xs) (any_at test past xs i none h)

test_of : {A : Type 0} (b : Bool) (o : Option A) (t : A) → only_if b o ≡ Some t → b ≡ true
test_of true o t h = refl
test_of false o t h = absurd (none_some t h)

update_of : (d : Design) (s t : MachineState) (puts : List Put) → update_step d s puts ≡ Some t → is_some_put puts ≡ true
update_of d s t [] h = absurd (none_some t h)
update_of d s t (put ∷ puts) h = refl

pub step_active : (d : Design) (s t : MachineState) (e : Event) → step d s e ≡ Some t → is_active s ≡ true
unfolding step is_active
step_active d s t (Stmt p) h =
    or_left (list_any (is_pending_at s) s.standings) _ (any_at (is_pending_at s) Over s.standings p refl (test_of (is_pending_at s (standing_at s p)) _ t h))
step_active d s t (AssignEvent a) h =
    or_right (list_any (is_pending_at s) s.standings) _ (or_left (list_any (nat_lt 0) s.evaluations) _ (any_at (nat_lt 0) 0 s.evaluations a refl (test_of (nat_lt 0 (count_at s.evaluations a)) _ t h)))
step_active d s t Update h =
    or_right (list_any (is_pending_at s) s.standings) _ (or_right (list_any (nat_lt 0) s.evaluations) _ (or_right (list_any (nat_lt 0) s.resolutions) _ (update_of d s t s.moved h)))
step_active d s t (Resolve n order) h =
    or_right (list_any (is_pending_at s) s.standings) _ (or_right (list_any (nat_lt 0) s.evaluations) _ (or_left (list_any (nat_lt 0) s.resolutions) _ (any_at (nat_lt 0) 0 s.resolutions n refl (test_of (nat_lt 0 (count_at s.resolutions n)) _ t h))))
