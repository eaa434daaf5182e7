-- How a run goes on by one event.
use Rattle.std.proofs.Common.{◌≡◌, inl, inr, ◌⊎◌, ℕ, zero, suc, ◌+◌, ◌-◌, ◌<◌, ◌≤◌, ◌^◌, Bool, true, false, ◌||◌, ◌&&◌, ◌==◌, nat_lt, lt-ltb, ltb-true, if◌then◌else◌, List, [], ◌∷◌, ◌++◌, length, Option, Some, None, slice_get, option_and_then, replicate, refl, sym, ◌∙◌, ap, subst, arith, get_or-set_same, get_or-set_other, IsSome}
use Rattle.std.specs.List.{All, list_any, range_with_len}
use Rattle.std.proofs.lemmas.Bool.{cases_eq}
use Rattle.std.proofs.lemmas.List.{flat_map_more, replicate_more, get_or_past, get_or-replicate}
use Rattle.std.proofs.lemmas.List.Elements.{All-append, All-nil, All-cons}
use Rattle.std.proofs.lemmas.Bool.{and_parts}
use Rattle.std.proofs.lemmas.Option.{none-some}
use Rattle.nt_design.specs.Plain.{IsPlain}
use Rattle.nt_design.specs.WellFormed.{IsDesign}
use Rattle.nt_design.specs.declared.design.Design.{Design}
use Rattle.nt_machine.specs.Plain.{IsPlainState}
use Rattle.nt_semantics.specs.Same.{is_same}
use Rattle.nt_semantics.specs.State.{MachineState, start_state, value_at, count_at, fewer, more}
use Rattle.nt_semantics.specs.StateFits.{IsStateOf, AtMost}
use Rattle.nt_semantics.specs.Step.{step, is_pending_at, is_some_put, all_below}
use Rattle.nt_semantics.specs.Texts.{IsWritten}
use Rattle.nt_semantics.specs.Execution.{IsComplete, run, settle, is_active, expansion, copies, is_entry}
use Rattle.nt_semantics.specs.declared.event.Event.{Event}
use Rattle.nt_semantics.specs.declared.event.Event.TheVariants.{Stmt, Assign, Update, Resolve}
use Rattle.nt_semantics.specs.declared.event.Entry.{Entry}
use Rattle.nt_machine.proofs.Counts.{at_most_counts}
use Rattle.nt_machine.proofs.Moves.{settled}
use Rattle.nt_semantics.proofs.StartFitting.{start_fits}
use Rattle.nt_machine.proofs.Starts.{start_still}
use Rattle.nt_machine.proofs.Steps.{can_evaluate, can_resolve, evaluated_to, resolved_to}
use Rattle.nettype_sim.specs.Progress.{LeadsTo, Evaluated, Resolved, CanResolve, ResolvedTimes}

-- two runs, one after the other
through : {A B C : Type 0} (f : A → Option C) (g : A → Option B) (h : B → Option C) → ((a : A) → f a ≡ option_and_then h (g a)) → (o : Option A) → option_and_then f o ≡ option_and_then h (option_and_then g o)
through f g h each None = refl
through f g h each (Some a) = each a

run_append : (until : ℕ) (d : Design) (xs ys : List Event) (s : MachineState) → run until d (xs ++ ys) s ≡ option_and_then (run until d ys) (run until d xs s)
run_append until d [] ys s = refl
run_append until d (x ∷ xs) ys s =
    through (run until d (xs ++ ys)) (run until d xs) (run until d ys) (run_append until d xs ys) (step d (settle until s) x)

pub run_then : (until : ℕ) (d : Design) (xs ys : List Event) (s m t : MachineState) → run until d xs s ≡ Some m → run until d ys m ≡ Some t → run until d (xs ++ ys) s ≡ Some t
run_then until d xs ys s m t first second = run_append until d xs ys s ∙ ap (option_and_then (run until d ys)) first ∙ second

pub run_step : (until : ℕ) (d : Design) (s t : MachineState) (e : Event) → IsPlainState s → step d s e ≡ Some t → run until d (e ∷ []) s ≡ Some t
run_step until d s t e still h =
    ap (option_and_then (run until d [])) (ap (λ x. step d x e) (settled until s still) ∙ h)

-- the front of a run is a run
some_before : {A B : Type 0} (f : A → Option B) (o : Option A) (b : B) → option_and_then f o ≡ Some b → (a : A) × (o ≡ Some a)
some_before f None b h = absurd (none-some b h)
some_before f (Some a) b h = (a, refl)

pub run_front : (until : ℕ) (d : Design) (xs ys : List Event) (s t : MachineState) → run until d (xs ++ ys) s ≡ Some t → (m : MachineState) × (run until d xs s ≡ Some m)
run_front until d xs ys s t h = some_before (run until d ys) (run until d xs s) t (sym (run_append until d xs ys s) ∙ h)

pub entry_added : (d : Design) (s t : MachineState) (entries : List Entry) (entry : Entry) → LeadsTo d entries s → is_entry d entry ≡ true → IsWritten entry → ((until : ℕ) → run until d (copies entry) s ≡ Some t) → IsStateOf d t → IsPlainState t → LeadsTo d (entries ++ entry ∷ []) t
entry_added d s t entries entry leads counts is more fits plain = record {
  execution = λ until. record {
    counted = All-append (λ (e : Entry). is_entry d e ≡ true) entries (entry ∷ []) (leads.execution until).counted (one_entry entry counts);
    runs = subst (λ (es : List Event). run until d es (start_state d) ≡ Some t) (flat_map_more copies [] entries entry) (run_then until d (expansion entries) (copies entry) (start_state d) s t (leads.execution until).runs (more until));
  };
  written = All-append IsWritten entries (entry ∷ []) leads.written (All-cons IsWritten entry [] is (All-nil IsWritten));
  fits = fits;
  plain = plain;
}
  where
    one_entry : (entry : Entry) → is_entry d entry ≡ true → All (λ (e : Entry). is_entry d e ≡ true) (entry ∷ [])
    one_entry entry h = All-cons (λ (e : Entry). is_entry d e ≡ true) entry [] h (All-nil (λ (e : Entry). is_entry d e ≡ true))

pub start_leads : (d : Design) → IsDesign d → IsPlain d → LeadsTo d [] (start_state d)
start_leads d is plain = record {
  execution = λ until. record { counted = All-nil (λ (e : Entry). is_entry d e ≡ true); runs = refl };
  written = All-nil IsWritten;
  fits = start_fits d is;
  plain = start_still d plain;
}

lt_or_le : (k n : ℕ) → (k < n) ⊎ (n ≤ k)
lt_or_le k zero = inr (omega arith)
lt_or_le zero (suc n) = inl (omega arith)
lt_or_le (suc k) (suc n) = elim (lt_or_le k n) [
  | inl below ↦ inl (omega (arith, below))
  | inr past ↦ inr (omega (arith, past))
]

some_at : {X : Type 0} (xs : List X) (i : ℕ) → i < length xs → (x : X) × (slice_get xs i ≡ Some x)
some_at [] i h = absurd (omega (arith, h))
some_at (x ∷ xs) zero h = (x, refl)
some_at (x ∷ xs) (suc i) h = some_at xs i (omega (arith, h))

less_same : (counts : List ℕ) (i : ℕ) → i < length counts → count_at (fewer 1 counts i) i ≡ count_at counts i - 1
less_same counts i h = get_or-set_same counts i _ 0 h

less_other : (counts : List ℕ) (i k : ℕ) → (k ≡ i → ⊥) → count_at (fewer 1 counts i) k ≡ count_at counts k
less_other counts i k h = get_or-set_other counts i k _ 0 h

-- a count that is raised at one place falls nowhere, and rises by one at most
more_within : (counts : List ℕ) (n k : ℕ) → (count_at counts k ≤ count_at (more counts n) k) × (count_at (more counts n) k ≤ count_at counts k + 1)
more_within [] n k = (omega arith, omega arith)
more_within (x ∷ xs) zero zero = (omega arith, omega arith)
more_within (x ∷ xs) zero (suc k) = (omega arith, omega arith)
more_within (x ∷ xs) (suc n) zero = (omega arith, omega arith)
more_within (x ∷ xs) (suc n) (suc k) = more_within xs n k

-- what an evaluation leaves of the counts
record EvaluationLeaves (s : MachineState) (a : ℕ) (t : MachineState) : Type 0 where
  evaluations : t.evaluations ≡ fewer 1 s.evaluations a
  resolutions : (k : ℕ) → (count_at s.resolutions k ≤ count_at t.resolutions k) × (count_at t.resolutions k ≤ count_at s.resolutions k + 1)

evaluation_leaves : (d : Design) (s t : MachineState) (a : ℕ) → IsPlain d → step d s (Assign a) ≡ Some t → EvaluationLeaves s a t
evaluation_leaves d s t a plain h =
    let x = evaluated_to d s t a plain h in
    subst (EvaluationLeaves s a) (sym x.2) record {
      evaluations = refl;
      resolutions = λ k. within (is_same (value_at s.slots a) x.1) x.0 k;
    }
  where
    within : (b : Bool) (n k : ℕ) → (count_at s.resolutions k ≤ count_at (if b then s.resolutions else more s.resolutions n) k) × (count_at (if b then s.resolutions else more s.resolutions n) k ≤ count_at s.resolutions k + 1)
    within true n k = (omega arith, omega arith)
    within false n k = more_within s.resolutions n k

-- the next assignment can be evaluated
pub next_evaluation : (d : Design) (a : ℕ) (entries : List Entry) (s : MachineState) → IsPlain d → a < length d.assigns → Evaluated d a entries s → IsSome (step d s (Assign a))
next_evaluation d a entries s plain within so_far =
    let here = some_at d.assigns a within in
    let one = so_far.left a (omega arith) within in
    can_evaluate d s a here.0 plain here.1 (omega (arith, one))

pub evaluated_few : (d : Design) (a : ℕ) (entries : List Entry) (s : MachineState) → IsDesign d → a ≤ length d.assigns → Evaluated d a entries s → AtMost (2 ^ 20) s
evaluated_few d a entries s is within so_far =
    at_most_counts (2 ^ 20) s (omega arith) so_far.leads.plain evaluations (λ n. omega (arith, so_far.few n, within, is.small.processes))
  where
    evaluations : (k : ℕ) → count_at s.evaluations k ≤ 2 ^ 20
    evaluations k = elim (lt_or_le k a) [
      | inl below ↦ omega (arith, so_far.done k below)
      | inr past ↦ elim (lt_or_le k (length d.assigns)) [
        | inl there ↦ omega (arith, so_far.left k past there)
        | inr beyond ↦ omega (arith, get_or_past s.evaluations k 0 (omega (arith, beyond, so_far.leads.fits.evaluations)))
      ]
    ]

pub few_more : (s : MachineState) → AtMost (2 ^ 20) s → AtMost (2 ^ 62) s
few_more s few e = omega (arith, few e)

pub evaluated_more : (d : Design) (a : ℕ) (entries : List Entry) (s t : MachineState) → IsDesign d → IsPlain d → a < length d.assigns → Evaluated d a entries s → step d s (Assign a) ≡ Some t → IsStateOf d t → IsPlainState t → Evaluated d (a + 1) (entries ++ record { event = Assign a; count = 1 } ∷ []) t
evaluated_more d a entries s t is plain within so_far h fits still = record {
  leads = entry_added d s t entries record { event = Assign a; count = 1 } so_far.leads refl (omega (arith, within, is.small.processes), (omega arith, omega arith)) (λ until. run_step until d s t (Assign a) so_far.leads.plain h) fits still;
  done = λ k below. elim (cases_eq k a) [
    | inl same ↦ now_done k same
    | inr other ↦ at k ∙ less_other s.evaluations a k other ∙ so_far.done k (omega (arith, below, other))
  ];
  left = λ k past there. let other : k ≡ a → ⊥ = λ e. omega (arith, e, past) in at k ∙ less_other s.evaluations a k other ∙ so_far.left k (omega (arith, past)) there;
  once = λ n there. omega (arith, (leaves.resolutions n).0, so_far.once n there);
  few = λ n. omega (arith, (leaves.resolutions n).1, so_far.few n);
}
  where
    leaves : EvaluationLeaves s a t
    leaves = evaluation_leaves d s t a plain h

    at : (k : ℕ) → count_at t.evaluations k ≡ count_at (fewer 1 s.evaluations a) k
    at k = ap (λ (l : List ℕ). count_at l k) leaves.evaluations

    now_done : (k : ℕ) → k ≡ a → count_at t.evaluations k ≡ 0
    now_done k same =
        let here = less_same s.evaluations a (omega (arith, within, so_far.leads.fits.evaluations)) in
        let one = so_far.left a (omega arith) within in
        ap (λ i. count_at t.evaluations i) same ∙ at a ∙ here ∙ omega (arith, one)

-- after the last evaluation the resolutions begin
pub resolutions_begin : (d : Design) (entries : List Entry) (s : MachineState) → IsDesign d → Evaluated d (length d.assigns) entries s → Resolved d 0 entries s
resolutions_begin d entries s is so_far = record {
  leads = so_far.leads;
  evaluated = λ k. elim (lt_or_le k (length d.assigns)) [
    | inl below ↦ so_far.done k below
    | inr past ↦ get_or_past s.evaluations k 0 (omega (arith, past, so_far.leads.fits.evaluations))
  ];
  done = λ k h. absurd (omega (arith, h));
  left = λ k h there. so_far.once k there;
  few = evaluated_few d (length d.assigns) entries s is (omega arith) so_far;
}

pub not_resolved : (d : Design) (n : ℕ) (event : Event) (s : MachineState) → IsStateOf d s → IsPlainState s → ResolvedTimes d n event 0 s s
not_resolved d n event s of still = record { runs = λ until. refl; fits = of; plain = still; evaluations = refl; resolved = omega arith; others = λ k h. refl }

pub still_pending : (d : Design) (n : ℕ) (event : Event) (turn : ℕ) (old s : MachineState) → IsPlain d → CanResolve d n event → ResolvedTimes d n event turn old s → turn < count_at old.resolutions n → IsSome (step d s event)
still_pending d n (Stmt p) turn old s plain can so_far h = absurd can
still_pending d n (Assign a) turn old s plain can so_far h = absurd can
still_pending d n Update turn old s plain can so_far h = absurd can
still_pending d n (Resolve m order) turn old s plain (same, net, here, in_order) so_far h =
    let P : ℕ → Type 0 = λ k. IsSome (step d s (Resolve k order)) in
    subst P (sym same) (can_resolve d s n order net plain so_far.plain here in_order (omega (arith, so_far.resolved, h)))

pub still_few : (d : Design) (n : ℕ) (event : Event) (turn : ℕ) (old s : MachineState) → AtMost (2 ^ 20) old → ResolvedTimes d n event turn old s → AtMost (2 ^ 20) s
still_few d n event turn old s few so_far =
    at_most_counts (2 ^ 20) s (omega arith) so_far.plain (λ a. let e = ap (λ (l : List ℕ). count_at l a) so_far.evaluations in omega (arith, e, few (Assign a))) resolutions
  where
    resolutions : (k : ℕ) → count_at s.resolutions k ≤ 2 ^ 20
    resolutions k = elim (cases_eq k n) [
      | inl same ↦ let e = ap (λ i. count_at s.resolutions i) same in omega (arith, e, so_far.resolved, few (Resolve n []))
      | inr other ↦ omega (arith, so_far.others k other, few (Resolve k []))
    ]

-- what a resolution leaves of the counts
record ResolutionLeaves (s : MachineState) (n : ℕ) (t : MachineState) : Type 0 where
  evaluations : t.evaluations ≡ s.evaluations
  resolutions : t.resolutions ≡ fewer 1 s.resolutions n

resolution_leaves : (d : Design) (s t : MachineState) (n : ℕ) (order : List ℕ) → IsPlain d → IsPlainState s → step d s (Resolve n order) ≡ Some t → ResolutionLeaves s n t
resolution_leaves d s t n order plain still h =
    let x = resolved_to d s t n order plain still h in
    subst (ResolutionLeaves s n) (sym x.1) record { evaluations = refl; resolutions = refl }

pub resolved_more : (d : Design) (n : ℕ) (event : Event) (turn : ℕ) (old s t : MachineState) → IsPlain d → n < length d.nets → CanResolve d n event → ResolvedTimes d n event turn old s → turn < count_at old.resolutions n → step d s event ≡ Some t → IsStateOf d t → IsPlainState t → ResolvedTimes d n event (turn + 1) old t
resolved_more d n (Stmt p) turn old s t plain within can so_far h is fits still = absurd can
resolved_more d n (Assign a) turn old s t plain within can so_far h is fits still = absurd can
resolved_more d n Update turn old s t plain within can so_far h is fits still = absurd can
resolved_more d n (Resolve m order) turn old s t plain within (same, net, here, in_order) so_far h is fits still = record {
  runs = λ until. subst (λ (es : List Event). run until d es old ≡ Some t) (replicate_more turn (Resolve m order)) (run_then until d (replicate turn (Resolve m order)) (Resolve m order ∷ []) old s t (so_far.runs until) (run_step until d s t (Resolve m order) so_far.plain is));
  fits = fits;
  plain = still;
  evaluations = leaves.evaluations ∙ so_far.evaluations;
  resolved = let one = at n ∙ less_same s.resolutions n (omega (arith, within, so_far.fits.resolutions)) in omega (arith, one, so_far.resolved, h);
  others = λ k o. at k ∙ less_other s.resolutions n k o ∙ so_far.others k o;
}
  where
    leaves : ResolutionLeaves s n t
    leaves = resolution_leaves d s t n order plain so_far.plain (subst (λ k. step d s (Resolve k order) ≡ Some t) same is)

    at : (k : ℕ) → count_at t.resolutions k ≡ count_at (fewer 1 s.resolutions n) k
    at k = ap (λ (l : List ℕ). count_at l k) leaves.resolutions

both_ways : (a b : Bool) → b ≡ true → (a || (b && true)) ≡ true
both_ways true b h = refl
both_ways false true h = refl
both_ways false false h = h

-- a net that was resolved as often as it was pending is one entry more
pub resolved_entry : (d : Design) (n count : ℕ) (event : Event) (old new : MachineState) (entries : List Entry) → IsDesign d → n < length d.nets → CanResolve d n event → count ≡ count_at old.resolutions n → Resolved d n entries old → ResolvedTimes d n event count old new → Resolved d (n + 1) (entries ++ record { event = event; count = count } ∷ []) new
resolved_entry d n count event old new entries design within can is so_far times = record {
  leads = entry_added d old new entries record { event = event; count = count } so_far.leads (counted_entry event count (omega (arith, is, so_far.left n (omega arith) within)) can) (written_entry event count (omega (arith, is, so_far.left n (omega arith) within)) (omega (arith, is, so_far.few (Resolve n []))) can) times.runs times.fits times.plain;
  evaluated = λ k. ap (λ (l : List ℕ). count_at l k) times.evaluations ∙ so_far.evaluated k;
  done = λ k h. elim (cases_eq k n) [
    | inl same ↦ ap (λ i. count_at new.resolutions i) same ∙ omega (arith, times.resolved, is)
    | inr other ↦ times.others k other ∙ so_far.done k (omega (arith, h, other))
  ];
  left = λ k past there. let other : k ≡ n → ⊥ = λ e. omega (arith, e, past) in let kept = times.others k other in omega (arith, kept, so_far.left k (omega (arith, past)) there);
  few = still_few d n event count old new so_far.few times;
}
  where
    either_count : (count : ℕ) → 1 ≤ count → (count == 1 || (nat_lt 1 count && true)) ≡ true
    either_count zero h = absurd (omega (arith, h))
    either_count (suc zero) h = refl
    either_count (suc (suc k)) h = both_ways (suc (suc k) == 1) (nat_lt 1 (suc (suc k))) (lt-ltb 1 (suc (suc k)) (omega arith))

    counted_entry : (event : Event) (count : ℕ) → 1 ≤ count → CanResolve d n event → is_entry d (record { event = event; count = count }) ≡ true
    counted_entry (Stmt p) count h can = absurd can
    counted_entry (Assign a) count h can = absurd can
    counted_entry Update count h can = absurd can
    counted_entry (Resolve m order) count h can = either_count count h

    below : (xs : List ℕ) (most : ℕ) → most ≤ 1024 → all_below most xs ≡ true → All (λ slot. slot < 2 ^ 32) xs
    below [] most few h = All-nil (λ slot. slot < 2 ^ 32)
    below (x ∷ xs) most few h =
        let parts = and_parts (nat_lt x most) (all_below most xs) h in
        let low = ltb-true x most parts.0 in
        All-cons (λ slot. slot < 2 ^ 32) x xs (omega (arith, low, few)) (below xs most few parts.1)

    written_entry : (event : Event) (count : ℕ) → 1 ≤ count → count ≤ 2 ^ 20 → CanResolve d n event → IsWritten (record { event = event; count = count })
    written_entry (Stmt p) count h few can = absurd can
    written_entry (Assign a) count h few can = absurd can
    written_entry Update count h few can = absurd can
    written_entry (Resolve m order) count h few (same, net, here, in_order) = (
      omega (arith, same, within, design.small.nets),
      (below order (length net.slots) (design.nets n net here).few_drivers (and_parts _ _ (and_parts _ _ in_order).0).1, (h, omega (arith, few))),
    )

range_more : (a n : ℕ) → range_with_len a (suc n) ≡ range_with_len a n ++ (a + n) ∷ []
range_more a zero = ap (λ k. k ∷ []) (omega arith)
range_more a (suc n) =
    ap (λ (l : List ℕ). a ∷ l) (range_more (a + 1) n ∙ ap (λ k. range_with_len (a + 1) n ++ k ∷ []) (omega arith))

pub range_from_0 : (n : ℕ) → range_with_len 0 (suc n) ≡ range_with_len 0 n ++ n ∷ []
range_from_0 n = range_more 0 n ∙ ap (λ k. range_with_len 0 n ++ k ∷ []) (omega arith)

pub start_evaluated : (d : Design) → IsDesign d → IsPlain d → Evaluated d 0 [] (start_state d)
start_evaluated d is plain = record {
  leads = start_leads d is plain;
  done = λ k h. absurd (omega (arith, h));
  left = λ k h l. get_or-replicate {A = ℕ} (length d.assigns) k 1 0 l;
  once = λ n l. let one = get_or-replicate {A = ℕ} (length d.nets) n 1 0 l in omega (arith, one);
  few = λ n. ones (length d.nets) n;
}
  where
    ones : (m n : ℕ) → count_at (replicate m 1) n ≤ 0 + 1
    ones zero n = omega arith
    ones (suc m) zero = omega arith
    ones (suc m) (suc n) = ones m n

-- where every count is 0 nothing is in Active
none_left : (counts : List ℕ) → ((k : ℕ) → count_at counts k ≡ 0) → list_any (nat_lt 0) counts ≡ false
none_left [] h = refl
none_left (x ∷ xs) h =
    let first : nat_lt 0 x ≡ false = ap (λ n. nat_lt 0 n) (h zero) in
    ap (λ b. b || list_any (nat_lt 0) xs) first ∙ none_left xs (λ k. h (suc k))

pub nothing_left : (d : Design) (entries : List Entry) (s : MachineState) → Resolved d (length d.nets) entries s → (until : ℕ) → IsComplete until s
unfolding is_active
nothing_left d entries s so_far until =
    ap is_active (settled until s so_far.leads.plain)
    ∙ ap (λ places. list_any (is_pending_at s) places || (list_any (nat_lt 0) s.evaluations || (list_any (nat_lt 0) s.resolutions || is_some_put s.moved))) so_far.leads.plain.standings
    ∙ ap (λ b. b || (list_any (nat_lt 0) s.resolutions || is_some_put s.moved)) (none_left s.evaluations so_far.evaluated)
    ∙ ap (λ b. b || is_some_put s.moved) (none_left s.resolutions none_resolves)
    ∙ ap is_some_put so_far.leads.plain.moved
  where
    none_resolves : (k : ℕ) → count_at s.resolutions k ≡ 0
    none_resolves k = elim (lt_or_le k (length d.nets)) [
      | inl below ↦ so_far.done k below
      | inr past ↦ get_or_past s.resolutions k 0 (omega (arith, past, so_far.leads.fits.resolutions))
    ]
