-- Procedures that a move brings back stand on the ready list once.
use Rattle.std.specs.Prelude.{◌↔◌, Contains}
use Rattle.std.proofs.Common.{◌≡◌, ℕ, zero, suc, ◌+◌, ◌<◌, ◌≤◌, ◌==◌, nat_lt, Bool, true, false, if◌then◌else◌, List, [], ◌∷◌, length, map, filter, get_or, refl, sym, ◌∙◌, ap, subst, arith}
use Rattle.std.proofs.lemmas.Bool.{false≢true, eq-eqb}
use Rattle.nt_design.specs.declared.design.Design.{Design}
use Rattle.nt_semantics.proofs.Counting.{among_times, no_assign, proc_once, times_filter, times_new, times_procs}
use Rattle.nt_semantics.proofs.Tying.{times_none}
use Rattle.nt_semantics.specs.Groups.{processes, is_among, is_same_process}
use Rattle.nt_semantics.specs.ReadyLists.{Holds, one_if, stands_listed, times}
use Rattle.nt_semantics.specs.Rounds.{with_new}
use Rattle.nt_semantics.specs.State.{MachineState, count_at, standing_at}
use Rattle.nt_semantics.specs.declared.process.Process.{Process}
use Rattle.nt_semantics.specs.declared.process.Process.TheVariants.{Procedure, Assignment}

some_at : (p : ℕ) (xs : List ℕ) (k : ℕ) → k < length xs → get_or xs k p ≡ p → 0 < times (λ q. p == q) xs
some_at p [] k low is = absurd (omega (arith, low))
some_at p (x ∷ xs) zero low is =
    subst (λ (b : Bool). 0 < (if b then 1 + times (λ q. p == q) xs else times (λ q. p == q) xs)) (sym (eq-eqb p x (sym is))) (omega arith)
some_at p (x ∷ xs) (suc k) low is = of_first (some_at p xs k (omega (arith, low)) is) (p == x)
  where
    of_first : 0 < times (λ q. p == q) xs → (b : Bool) → 0 < (if b then 1 + times (λ q. p == q) xs else times (λ q. p == q) xs)
    of_first rest true = omega arith
    of_first rest false = rest

pub times_some : (p : ℕ) (xs : List ℕ) → Contains xs p → 0 < times (λ q. p == q) xs
times_some p xs c = some_at p xs c.0 c.1 c.2

-- a procedure stands once on a list of those put away, where it stands there
pub times_away : (p : ℕ) (xs : List ℕ) (P : Type 0) (b : Bool) → times (λ q. p == q) xs ≤ 1 → Contains xs p ↔ P → (b ≡ true → P) → (P → b ≡ true) → times (λ q. p == q) xs ≡ one_if b
times_away p xs P true few on to from = omega (arith, few, times_some p xs (on.1 (to refl)))
times_away p xs P false few on to from = times_none p xs (λ c. false≢true (from (on.0 c)))

-- A move changes where procedures stand, and those that it brings back stand on the list behind the others.
module _ (d : Design) (b : Bool) (s t : MachineState) (list : List Process) (back : List ℕ) (is_back : ℕ → Bool) (holds : Holds b s list) (counts : t.evaluations ≡ s.evaluations) (returns : (p : ℕ) → times (λ q. p == q) back ≡ one_if (is_back p)) (stay : (p : ℕ) → is_back p ≡ false → stands_listed b (standing_at t p) ≡ stands_listed b (standing_at s p)) (come : (p : ℕ) → is_back p ≡ true → (stands_listed b (standing_at s p) ≡ false) × (stands_listed b (standing_at t p) ≡ true)) (there : (p : ℕ) → is_back p ≡ true → p < length d.procs) where
  abbrev brought : List Process
  brought = filter (is_among (processes d)) (map (λ p. Procedure p) back)

  brought_times : (y : Process) → times (is_same_process y) brought ≡ (if is_among (processes d) y then times (is_same_process y) (map (λ p. Procedure p) back) else 0)
  brought_times y = times_filter (is_among (processes d)) y (map (λ p. Procedure p) back)

  none_chosen : (c : Bool) (n : ℕ) → n ≡ 0 → (if c then n else 0) ≡ 0
  none_chosen true n h = h
  none_chosen false n h = refl

  plus_none : (c : Bool) (n m : ℕ) → m ≡ 0 → n + (if c then 0 else m) ≡ n
  plus_none true n m h = omega arith
  plus_none false n m h = omega (arith, h)

  proc_holds : (p : ℕ) (c : Bool) → is_back p ≡ c → times (is_same_process (Procedure p)) (with_new list brought) ≡ one_if (stands_listed b (standing_at t p))
  proc_holds p true is =
      let x = come p is in
      let none : times (is_same_process (Procedure p)) list ≡ 0 = holds (Procedure p) ∙ ap one_if x.0 in
      let among : is_among (processes d) (Procedure p) ≡ true = among_times (Procedure p) (processes d) ∙ ap (nat_lt 0) (proc_once d p (there p is)) in
      let one : times (is_same_process (Procedure p)) brought ≡ 1 = brought_times (Procedure p) ∙ ap (λ c. if c then times (is_same_process (Procedure p)) (map (λ p. Procedure p) back) else 0) among ∙ times_procs p back ∙ returns p ∙ ap one_if is in
      times_new (Procedure p) list brought ∙ ap (λ c. times (is_same_process (Procedure p)) list + (if c then 0 else times (is_same_process (Procedure p)) brought)) (among_times (Procedure p) list ∙ ap (nat_lt 0) none) ∙ omega (arith, none, one) ∙ ap one_if (sym x.1)
  proc_holds p false is =
      times_new (Procedure p) list brought ∙ plus_none (is_among list (Procedure p)) (times (is_same_process (Procedure p)) list) (times (is_same_process (Procedure p)) brought) (brought_times (Procedure p) ∙ none_chosen (is_among (processes d) (Procedure p)) (times (is_same_process (Procedure p)) (map (λ p. Procedure p) back)) (times_procs p back ∙ returns p ∙ ap one_if is)) ∙ holds (Procedure p) ∙ ap one_if (sym (stay p is))

  pub back_holds : Holds b t (with_new list brought)
  back_holds (Procedure p) = proc_holds p (is_back p) refl
  back_holds (Assignment a) =
      times_new (Assignment a) list brought ∙ plus_none (is_among list (Assignment a)) (times (is_same_process (Assignment a)) list) (times (is_same_process (Assignment a)) brought) (brought_times (Assignment a) ∙ none_chosen (is_among (processes d) (Assignment a)) (times (is_same_process (Assignment a)) (map (λ p. Procedure p) back)) (no_assign a back)) ∙ holds (Assignment a) ∙ ap (λ (l : List ℕ). one_if (nat_lt 0 (count_at l a))) (sym counts)
