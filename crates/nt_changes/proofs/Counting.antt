-- Assignments that wake one after another are those that wake together.
use Rattle.std.proofs.Common.{◌≡◌, ℕ, zero, suc, ◌+◌, ◌<◌, ◌≤◌, List, [], ◌∷◌, map, length, ap, sym, subst, ◌∙◌, arith, inl, inr, get_or-set_other, get_or-set_same}
use Rattle.std.specs.Prelude.{Bool, true, get_or, slice_set, ◌⊎◌}
use Rattle.std.proofs.lemmas.List.{length-set}
use Rattle.std.proofs.lemmas.List.FromFn.{fill_by_all}
use Rattle.nt_design.specs.declared.design.Design.{Design}
use Rattle.nt_design.specs.declared.object.Object.{Object}
use Rattle.nt_design.specs.declared.process.Assign.{Assign}
use Rattle.nt_semantics.specs.State.{MachineState, count_at}
use Rattle.nt_semantics.specs.Wake.{one_more_if, reads_at, wake}
use Rattle.nt_changes.specs.Woken.{assigns_woken, procs_woken}

-- the assignments below a number have woken
pub record Counted (d : Design) (o : Object) (s t : MachineState) (i : ℕ) : Type 0 where
  pub same : t ≡ record s { evaluations = t.evaluations }
  pub long : length t.evaluations ≡ length s.evaluations
  pub done : (k : ℕ) → k < i → count_at t.evaluations k ≡ one_more_if (reads_at d o k) (count_at s.evaluations k)
  pub left : (k : ℕ) → i ≤ k → count_at t.evaluations k ≡ count_at s.evaluations k

below_next : (k i : ℕ) → k < i + 1 → (k < i) ⊎ (k ≡ i)
below_next k i h = grind arith

pub counts_on : (d : Design) (o : Object) (s t u : MachineState) (i : ℕ) (b : Bool) → Counted d o s t i → i < length s.evaluations → b ≡ reads_at d o i → u ≡ record t { evaluations = slice_set t.evaluations i (one_more_if b (count_at t.evaluations i)) } → Counted d o s u (i + 1)
counts_on d o s t u i b so_far low wakes put = record {
  same =
      put
      ∙ (ap (λ (m : MachineState). record m { evaluations = slice_set t.evaluations i (one_more_if b (count_at t.evaluations i)) }) so_far.same
      ∙ (λ j. record s { evaluations = sym column j }));
  long = ap (λ l. length l) column ∙ (length-set t.evaluations i _ ∙ so_far.long);
  done = λ k h. elim (below_next k i h) [
    | inl below ↦ there k (λ e. absurd (omega (arith, below, e))) ∙ so_far.done k below
    | inr same ↦ subst (λ k. count_at u.evaluations k ≡ one_more_if (reads_at d o k) (count_at s.evaluations k)) (sym same) here
  ];
  left = λ k h. there k (λ e. absurd (omega (arith, h, e))) ∙ so_far.left k (omega (arith, h));
}
  where
    column : u.evaluations ≡ slice_set t.evaluations i (one_more_if b (count_at t.evaluations i))
    column = ap (λ (m : MachineState). m.evaluations) put

    here : count_at u.evaluations i ≡ one_more_if (reads_at d o i) (count_at s.evaluations i)
    here =
        ap (λ l. count_at l i) column
        ∙ (get_or-set_same t.evaluations i (one_more_if b (count_at t.evaluations i)) 0 (omega (arith, low, so_far.long))
        ∙ (ap (λ x. one_more_if x (count_at t.evaluations i)) wakes ∙ ap (one_more_if (reads_at d o i)) (so_far.left i (omega arith))))

    there : (k : ℕ) → (k ≡ i → ⊥) → count_at u.evaluations k ≡ count_at t.evaluations k
    there k differs =
        ap (λ l. count_at l k) column ∙ get_or-set_other t.evaluations i k (one_more_if b (count_at t.evaluations i)) 0 differs

pub all_counted : (d : Design) (o : Object) (s t : MachineState) (i : ℕ) → Counted d o s t i → length s.evaluations ≤ i → t ≡ assigns_woken d o s
all_counted d o s t i so_far high =
    so_far.same ∙ (λ j. record s {
      evaluations = fill_by_all (λ a. one_more_if (reads_at d o a) (count_at s.evaluations a)) t.evaluations (length s.evaluations) 0 so_far.long (λ k h. so_far.done k (omega (arith, h, high))) j;
    })

-- both together
pub woken_is : (d : Design) (o : Object) (s t u : MachineState) → t ≡ procs_woken d o s → u ≡ assigns_woken d o t → u ≡ wake d o true s
unfolding wake
woken_is d o s t u first second = second ∙ ap (assigns_woken d o) first

-- what an assignment reads
pub reads_there : (assigns : List Assign) (a : ℕ) (x : Assign) → a < length assigns → x ≡ get_or assigns a x → get_or (map (λ (assign : Assign). assign.reads) assigns) a [] ≡ x.reads
reads_there [] a x h is = absurd (omega (arith, h))
reads_there (y ∷ assigns) zero x h is = ap (λ (z : Assign). z.reads) (sym is)
reads_there (y ∷ assigns) (suc a) x h is = reads_there assigns a x (omega (arith, h)) is
