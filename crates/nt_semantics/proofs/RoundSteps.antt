-- The entries of a round are allowed one after another, and lead from its start to its end.
use Rattle.std.proofs.Common.{◌≡◌, ℕ, zero, suc, Bool, true, false, List, [], ◌∷◌, ◌++◌, refl, ◌∙◌}
use Rattle.std.specs.Prelude.{Option, Some, None, option_and_then, ◌==◌, if◌then◌else◌, is_some, length}
use Rattle.std.specs.List.{range_with_len}
use Rattle.nt_design.specs.declared.design.Design.{Design}
use Rattle.nt_semantics.specs.Execution.{steps, copies, expansion, enter, enter_all, is_entry, if_some}
use Rattle.nt_semantics.specs.Laws.{RoundEnters, RoundLeads}
use Rattle.nt_semantics.specs.Rounds.{Away, PhaseEnd, ResolveEnd, TooLong, phase, quantum, evaluate, resolve_nets, resolve_after, round, entry_of, marks_of, and_before, next_ready, away_after, stops, net_entry, with_woken, woken, with_entry}
use Rattle.nt_semantics.specs.declared.process.Process.{Process}
use Rattle.nt_semantics.specs.State.{MachineState, count_at}
use Rattle.nt_semantics.specs.Step.{step, only_if}
use Rattle.nt_semantics.specs.declared.event.Event.{Event}
use Rattle.nt_semantics.specs.declared.event.Event.TheVariants.{Resolve}
use Rattle.nt_semantics.specs.declared.event.Entry.{Entry}

none_some : (t : MachineState) → None ≡ Some t → ⊥
none_some t h = cc

-- events after events
steps_after : (d : Design) (es fs : List Event) (s : MachineState) → steps d (es ++ fs) s ≡ option_and_then (steps d fs) (steps d es s)
steps_after d [] fs s = refl
steps_after d (e ∷ es) fs s = after_step (λ t. steps_after d es fs t) (step d s e)
  where
    after_step : ((t : MachineState) → steps d (es ++ fs) t ≡ option_and_then (steps d fs) (steps d es t)) → (o : Option MachineState) → option_and_then (steps d (es ++ fs)) o ≡ option_and_then (steps d fs) (option_and_then (steps d es) o)
    after_step same None = refl
    after_step same (Some t) = same t

-- an entry that is allowed is its copies
enters : (d : Design) (s t : MachineState) (entry : Entry) → enter d s entry ≡ Some t → steps d (copies entry) s ≡ Some t
enters d s t entry h = of_test (is_entry d entry) h
  where
    of_test : (is : Bool) → only_if is (steps d (copies entry) s) ≡ Some t → steps d (copies entry) s ≡ Some t
    of_test true h = h
    of_test false h = absurd (none_some t h)

-- entries that are allowed one after another are their copies
pub entries_lead : (d : Design) (entries : List Entry) (s t : MachineState) → enter_all d entries s ≡ Some t → steps d (expansion entries) s ≡ Some t
entries_lead d [] s t h = h
entries_lead d (entry ∷ entries) s t h =
    of_entry (λ u g. entries_lead d entries u t g) (enter d s entry) refl h
  where
    of_entry : ((u : MachineState) → enter_all d entries u ≡ Some t → steps d (expansion entries) u ≡ Some t) → (o : Option MachineState) → enter d s entry ≡ o → option_and_then (enter_all d entries) o ≡ Some t → steps d (expansion (entry ∷ entries)) s ≡ Some t
    of_entry rest None is g = absurd (none_some t g)
    of_entry rest (Some u) is g =
        steps_after d (copies entry) (expansion entries) s ∙ (rw (enters d s u entry is) (rest u g))

-- an entry and then other entries
entry_then : (d : Design) (s t u : MachineState) (entry : Entry) (entries : List Entry) → enter d s entry ≡ Some t → enter_all d entries t ≡ Some u → enter_all d (entry ∷ entries) s ≡ Some u
entry_then d s t u entry entries is rest = rw is rest

-- entries and then other entries
entries_after : (d : Design) (es fs : List Entry) (s : MachineState) → enter_all d (es ++ fs) s ≡ option_and_then (enter_all d fs) (enter_all d es s)
entries_after d [] fs s = refl
entries_after d (e ∷ es) fs s = after_entry (λ t. entries_after d es fs t) (enter d s e)
  where
    after_entry : ((t : MachineState) → enter_all d (es ++ fs) t ≡ option_and_then (enter_all d fs) (enter_all d es t)) → (o : Option MachineState) → option_and_then (enter_all d (es ++ fs)) o ≡ option_and_then (enter_all d fs) (option_and_then (enter_all d es) o)
    after_entry same None = refl
    after_entry same (Some t) = same t

entries_then : (d : Design) (s t u : MachineState) (es fs : List Entry) → enter_all d es s ≡ Some t → enter_all d fs t ≡ Some u → enter_all d (es ++ fs) s ≡ Some u
entries_then d s t u es fs first rest = entries_after d es fs s ∙ (rw first rest)

-- ---- a group's phase
abbrev PhaseLeads : Design → MachineState → PhaseEnd → Type 0
PhaseLeads d s e = enter_all d e.entries s ≡ Some e.state

phase_leads : (n : ℕ) (d : Design) (s : MachineState) (xs : List Process) (away : Away) → PhaseLeads d s (phase n d s xs away)
unfolding phase
phase_leads n d s [] away = refl
phase_leads zero d s (x ∷ xs) away = refl
phase_leads (suc n) d s (x ∷ xs) away =
    of_entry (λ t ys new. phase_leads n d t ys new) (enter d s (entry_of d s x)) refl
  where
    of_entry : ((t : MachineState) (ys : List Process) (new : Away) → PhaseLeads d t (phase n d t ys new)) → (o : Option MachineState) → enter d s (entry_of d s x) ≡ o → PhaseLeads d s (if_some (stops s (x ∷ xs) away (TooLong (entry_of d s x).event)) (λ t. and_before (entry_of d s x) (marks_of d s t x) (phase n d t (next_ready d s t x xs) (away_after t x away))) o)
    of_entry leads None h = refl
    of_entry leads (Some t) h =
        entry_then d s t (phase n d t (next_ready d s t x xs) (away_after t x away)).state (entry_of d s x) (phase n d t (next_ready d s t x xs) (away_after t x away)).entries h (leads t (next_ready d s t x xs) (away_after t x away))

-- ---- phase Evaluate
evaluate_leads : (d : Design) (s : MachineState) (xss : List (List Process)) (away : Away) → enter_all d (evaluate d s xss away).entries s ≡ Some (evaluate d s xss away).state
evaluate_leads d s [] away = refl
evaluate_leads d s (xs ∷ xss) away =
    let e = phase quantum d s xs away in
    let r = evaluate d e.state xss e.away in
    entries_then d s e.state r.state e.entries r.entries (phase_leads quantum d s xs away) (evaluate_leads d e.state xss e.away)

-- ---- phase Resolve
abbrev ResolveLeads : Design → MachineState → ResolveEnd → Type 0
ResolveLeads d s r = enter_all d r.entries s ≡ Some r.state

abbrev stopped : ℕ → List ℕ → MachineState → List (List Process) → ResolveEnd
stopped n order s ready = record { state = s; ready = ready; entries = []; too_long = Some (Resolve n order) }

abbrev goes_on : Design → List (List Process) → (ℕ → List ℕ) → ℕ → List ℕ → MachineState → List (List Process) → MachineState → ResolveEnd
goes_on d groups orders n nets s ready t =
    with_entry (net_entry s n (orders n)) (resolve_nets d groups orders nets t (with_woken groups (woken d s t) ready))

resolve_leads : (d : Design) (groups : List (List Process)) (orders : ℕ → List ℕ) (nets : List ℕ) (s : MachineState) (ready : List (List Process)) → ResolveLeads d s (resolve_nets d groups orders nets s ready)
resolve_leads d groups orders [] s ready = refl
resolve_leads d groups orders (n ∷ nets) s ready =
    of_count (λ t more. resolve_leads d groups orders nets t more) (count_at s.resolutions n == 0)
  where
    of_entry : ((t : MachineState) (more : List (List Process)) → ResolveLeads d t (resolve_nets d groups orders nets t more)) → (o : Option MachineState) → enter d s (net_entry s n (orders n)) ≡ o → ResolveLeads d s (if_some (stopped n (orders n) s ready) (goes_on d groups orders n nets s ready) o)
    of_entry leads None h = refl
    of_entry leads (Some t) h =
        let r = resolve_nets d groups orders nets t (with_woken groups (woken d s t) ready) in
        entry_then d s t r.state (net_entry s n (orders n)) r.entries h (leads t (with_woken groups (woken d s t) ready))

    of_count : ((t : MachineState) (more : List (List Process)) → ResolveLeads d t (resolve_nets d groups orders nets t more)) → (is : Bool) → ResolveLeads d s (if is then resolve_nets d groups orders nets s ready else if_some (stopped n (orders n) s ready) (goes_on d groups orders n nets s ready) (enter d s (net_entry s n (orders n))))
    of_count leads true = leads s ready
    of_count leads false = of_entry leads (enter d s (net_entry s n (orders n))) refl

-- ---- a round
pub round_enters : RoundEnters
unfolding round
round_enters d groups orders r =
    let e = evaluate d r.state r.ready r.away in
    let p = resolve_after d groups orders e in
    entries_then d r.state e.state p.state e.entries p.entries (evaluate_leads d r.state r.ready r.away) (resolve_leads d groups orders (if is_some e.too_long then [] else range_with_len 0 (length d.nets)) e.state e.ready)

pub round_leads : RoundLeads
round_leads d groups orders r =
    entries_lead d (round d groups orders r).entries r.state (round d groups orders r).after.state (round_enters d groups orders r)
