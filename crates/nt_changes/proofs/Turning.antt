-- Procedures that wake one after another are those that wake together.
use Rattle.std.proofs.Common.{◌≡◌, ℕ, ◌+◌, ◌<◌, ◌≤◌, List, [], ◌∷◌, zero, suc, length, refl, ap, sym, subst, ◌∙◌, arith, inl, inr, get_or-set_other, get_or-set_same}
use Rattle.std.specs.Prelude.{Some, get_or, slice_get, slice_set, ◌⊎◌}
use Rattle.std.proofs.lemmas.List.{length-set}
use Rattle.std.proofs.lemmas.List.FromFn.{fill_by_all}
use Rattle.nt_design.specs.Expressions.{World}
use Rattle.nt_design.specs.Parts.{Value}
use Rattle.nt_design.specs.declared.design.Design.{Design}
use Rattle.nt_design.specs.declared.object.Object.{Object}
use Rattle.nt_semantics.specs.State.{MachineState, locals_at, standing_at, work_at, world_of_state}
use Rattle.nt_semantics.specs.Wake.{functions_of, standing_after, waking, waking_at, work_after}
use Rattle.nt_semantics.specs.declared.standing.Standing.{Standing}
use Rattle.nt_semantics.specs.declared.standing.Standing.TheVariants.{Over}
use Rattle.nt_semantics.specs.declared.work.Work.{Work}
use Rattle.nt_changes.specs.Woken.{procs_woken, woken_at}

-- the procedures below a number have woken
pub record SoFar (d : Design) (o : Object) (s t : MachineState) (i : ℕ) : Type 0 where
  pub same : t ≡ record s { standings = t.standings; work = t.work }
  pub long : length t.standings ≡ length s.standings
  pub long_work : length t.work ≡ length s.work
  pub done : (k : ℕ) → k < i → (standing_at t k ≡ standing_after (standing_at s k) (waking_at d o s k)) × (work_at t k ≡ work_after (work_at s k) (waking_at d o s k))
  pub left : (k : ℕ) → i ≤ k → (standing_at t k ≡ standing_at s k) × (work_at t k ≡ work_at s k)

pub begins : (d : Design) (o : Object) (s : MachineState) → SoFar d o s s 0
begins d o s = record {
  same = refl;
  long = refl;
  long_work = refl;
  done = λ k h. absurd (omega (arith, h));
  left = λ k h. (refl, refl);
}

below_next : (k i : ℕ) → k < i + 1 → (k < i) ⊎ (k ≡ i)
below_next k i h = grind arith

module _ (d : Design) (o : Object) (s t u : MachineState) (i : ℕ) (so_far : SoFar d o s t i) (low : i < length s.standings) (low_work : i < length s.work) (woken : u ≡ woken_at d o i t) where
  same_waking : waking_at d o t i ≡ waking_at d o s i
  same_waking =
      ap (λ (w : World). waking (functions_of d) w o (standing_at t i) (work_at t i) (locals_at t i)) (ap world_of_state so_far.same)
      ∙ (ap (λ (x : Standing). waking (functions_of d) (world_of_state s) o x (work_at t i) (locals_at t i)) (so_far.left i (omega arith)).0
      ∙ (ap (λ (x : List Work). waking (functions_of d) (world_of_state s) o (standing_at s i) x (locals_at t i)) (so_far.left i (omega arith)).1
      ∙ ap (λ (x : List Value). waking (functions_of d) (world_of_state s) o (standing_at s i) (work_at s i) x) (ap (λ (m : MachineState). locals_at m i) so_far.same)))

  standings_are : u.standings ≡ slice_set t.standings i (standing_after (standing_at t i) (waking_at d o t i))
  standings_are = ap (λ (m : MachineState). m.standings) woken

  work_is : u.work ≡ slice_set t.work i (work_after (work_at t i) (waking_at d o t i))
  work_is = ap (λ (m : MachineState). m.work) woken

  standing_here : standing_at u i ≡ standing_after (standing_at s i) (waking_at d o s i)
  standing_here =
      ap (λ l. get_or l i Over) standings_are
      ∙ (get_or-set_same t.standings i (standing_after (standing_at t i) (waking_at d o t i)) Over (omega (arith, low, so_far.long))
      ∙ (ap (λ x. standing_after x (waking_at d o t i)) (so_far.left i (omega arith)).0 ∙ ap (standing_after (standing_at s i)) same_waking))

  work_here : work_at u i ≡ work_after (work_at s i) (waking_at d o s i)
  work_here =
      ap (λ l. get_or l i []) work_is
      ∙ (get_or-set_same t.work i (work_after (work_at t i) (waking_at d o t i)) [] (omega (arith, low_work, so_far.long_work))
      ∙ (ap (λ x. work_after x (waking_at d o t i)) (so_far.left i (omega arith)).1 ∙ ap (work_after (work_at s i)) same_waking))

  standing_there : (k : ℕ) → (k ≡ i → ⊥) → standing_at u k ≡ standing_at t k
  standing_there k differs =
      ap (λ l. get_or l k Over) standings_are ∙ get_or-set_other t.standings i k (standing_after (standing_at t i) (waking_at d o t i)) Over differs

  work_there : (k : ℕ) → (k ≡ i → ⊥) → work_at u k ≡ work_at t k
  work_there k differs =
      ap (λ l. get_or l k []) work_is ∙ get_or-set_other t.work i k (work_after (work_at t i) (waking_at d o t i)) [] differs

  pub goes_on : SoFar d o s u (i + 1)
  goes_on = record {
    same =
        woken
        ∙ (ap (λ (m : MachineState). record m { standings = slice_set t.standings i (standing_after (standing_at t i) (waking_at d o t i)); work = slice_set t.work i (work_after (work_at t i) (waking_at d o t i)) }) so_far.same
        ∙ (λ j. record s { standings = sym standings_are j; work = sym work_is j }));
    long = ap (λ l. length l) standings_are ∙ (length-set t.standings i _ ∙ so_far.long);
    long_work = ap (λ l. length l) work_is ∙ (length-set t.work i _ ∙ so_far.long_work);
    done = λ k h. elim (below_next k i h) [
      | inl below ↦ (standing_there k (λ e. absurd (omega (arith, below, e))) ∙ (so_far.done k below).0, work_there k (λ e. absurd (omega (arith, below, e))) ∙ (so_far.done k below).1)
      | inr here ↦ subst (λ k. (standing_at u k ≡ standing_after (standing_at s k) (waking_at d o s k)) × (work_at u k ≡ work_after (work_at s k) (waking_at d o s k))) (sym here) (standing_here, work_here)
    ];
    left = λ k h. (standing_there k (λ e. absurd (omega (arith, h, e))) ∙ (so_far.left k (omega (arith, h))).0, work_there k (λ e. absurd (omega (arith, h, e))) ∙ (so_far.left k (omega (arith, h))).1);
  }

pub all_woken : (d : Design) (o : Object) (s t : MachineState) (i : ℕ) → SoFar d o s t i → length s.standings ≤ i → length s.work ≤ i → t ≡ procs_woken d o s
all_woken d o s t i so_far high high_work =
    so_far.same ∙ (λ j. record s {
      standings = fill_by_all (λ p. standing_after (standing_at s p) (waking_at d o s p)) t.standings (length s.standings) Over so_far.long (λ k h. (so_far.done k (omega (arith, h, high))).0) j;
      work = fill_by_all (λ p. work_after (work_at s p) (waking_at d o s p)) t.work (length s.work) [] so_far.long_work (λ k h. (so_far.done k (omega (arith, h, high_work))).1) j;
    })

-- what is asked of a procedure's world, locals and work
pub still : (P : World → List Value → List Work → Type 0) (d : Design) (o : Object) (s t : MachineState) (i : ℕ) → SoFar d o s t i → P (world_of_state s) (locals_at s i) (work_at s i) → P (world_of_state t) (locals_at t i) (work_at t i)
still P d o s t i so_far h =
    subst (λ (w : World). P w (locals_at t i) (work_at t i)) (sym (ap world_of_state so_far.same))
    (subst (λ (l : List Value). P (world_of_state s) l (work_at t i)) (sym (ap (λ (m : MachineState). locals_at m i) so_far.same))
    (subst (λ (l : List Work). P (world_of_state s) (locals_at s i) l) (sym (so_far.left i (omega arith)).1) h))

pub found : {A : Type 0} (xs : List A) (i : ℕ) → i < length xs → (x : A) × (slice_get xs i ≡ Some x)
found [] i h = absurd (omega (arith, h))
found (x ∷ xs) zero h = (x, refl)
found (x ∷ xs) (suc i) h = found xs i (omega (arith, h))
