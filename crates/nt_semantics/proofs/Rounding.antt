-- A round with one group keeps its ready list right.
use Rattle.std.proofs.Common.{◌≡◌, ℕ, ◌==◌, nat_lt, Bool, true, false, if◌then◌else◌, List, [], ◌∷◌, length, filter, replicate, is_some, Option, Some, None, refl, sym, ◌∙◌, ap, subst}
use Rattle.std.specs.List.{range_with_len}
use Rattle.nt_design.specs.declared.design.Design.{Design}
use Rattle.nt_semantics.specs.Execution.{enter, steps, copies, is_entry, if_some}
use Rattle.nt_semantics.specs.Groups.{processes, is_among}
use Rattle.nt_semantics.specs.Rounds.{ResolveEnd, phase, quantum, evaluate, resolve_nets, resolve_after, round, combs_after, is_ready, stands_ready, is_waiting, is_woken, with_new, with_woken, woken, net_entry, with_entry}
use Rattle.nt_semantics.specs.State.{MachineState, standing_at, count_at}
use Rattle.nt_semantics.specs.declared.event.Event.TheVariants.{Resolve}
use Rattle.nt_semantics.specs.declared.process.Process.{Process}
use Rattle.nt_semantics.specs.declared.process.Process.TheVariants.{Procedure, Assignment}
use Rattle.nt_semantics.specs.ReadyLists.{Listed, OneListed}
use Rattle.nt_semantics.specs.Laws.{RoundKeepsLists}
use Rattle.nt_semantics.proofs.Listing.{old_among, new_among, among_filter, steps_live, entered, ready_live, live_waits, both, none_pending, phase_listed}

-- ---- publications
module _ (d : Design) (n k : ℕ) (order : List ℕ) (s t : MachineState) (runs : steps d (replicate k (Resolve n order)) s ≡ Some t) where
  became : (y : Process) → is_ready s y ≡ false → is_ready t y ≡ true → is_woken s t y ≡ true
  became (Procedure p) before now =
      both (is_waiting (standing_at s p)) (stands_ready (standing_at t p)) (live_waits (standing_at s p) (steps_live d (Resolve n order) k s t p tt runs (ready_live (standing_at t p) now)) before) now
  became (Assignment b) before now =
      ap (λ m. nat_lt m (count_at t.evaluations b)) (none_pending (count_at s.evaluations b) before) ∙ now

  pub published : (xs : List Process) → Listed d s xs → Listed d t (with_new xs (filter (is_among (processes d)) (woken d s t)))
  published xs listed y there now = of_before (is_ready s y) refl
    where
      of_before : (b : Bool) → is_ready s y ≡ b → is_among (with_new xs (filter (is_among (processes d)) (woken d s t))) y ≡ true
      of_before true was = old_among xs (filter (is_among (processes d)) (woken d s t)) y (listed y there was)
      of_before false was =
          new_among xs (filter (is_among (processes d)) (woken d s t)) y (among_filter (is_among (processes d)) (woken d s t) y there (among_filter (is_woken s t) (processes d) y (became y was now) there))

-- ---- phase Resolve
abbrev pub OneOf : (MachineState → List Process → Type 0) → MachineState → List (List Process) → Type 0
OneOf K s ready = (xs : List Process) × (ready ≡ xs ∷ []) × K s xs

-- what each publication keeps of a state and a list, phase Resolve keeps
module _ (d : Design) (orders : ℕ → List ℕ) (K : MachineState → List Process → Type 0) (next : (n k : ℕ) (order : List ℕ) (s t : MachineState) → steps d (replicate k (Resolve n order)) s ≡ Some t → (xs : List Process) → K s xs → K t (with_new xs (filter (is_among (processes d)) (woken d s t)))) where
  abbrev goes : ℕ → List ℕ → MachineState → List Process → MachineState → ResolveEnd
  goes n nets s xs t =
      with_entry (net_entry s n (orders n)) (resolve_nets d (processes d ∷ []) orders nets t (with_woken (processes d ∷ []) (woken d s t) (xs ∷ [])))

  abbrev stops_at : ℕ → MachineState → List Process → ResolveEnd
  stops_at n s xs = record { state = s; ready = xs ∷ []; entries = []; too_long = Some (Resolve n (orders n)) }

  abbrev After : List ℕ → MachineState → List Process → Type 0
  After nets s xs =
      OneOf K (resolve_nets d (processes d ∷ []) orders nets s (xs ∷ [])).state (resolve_nets d (processes d ∷ []) orders nets s (xs ∷ [])).ready

  pub resolve_keeps : (nets : List ℕ) (s : MachineState) (xs : List Process) → K s xs → After nets s xs
  resolve_keeps [] s xs kept = (xs, refl, kept)
  resolve_keeps (n ∷ nets) s xs kept =
      of_count (λ t ys h. resolve_keeps nets t ys h) (count_at s.resolutions n == 0)
    where
      of_entry : ((t : MachineState) (ys : List Process) → K t ys → After nets t ys) → (o : Option MachineState) → enter d s (net_entry s n (orders n)) ≡ o → OneOf K (if_some (stops_at n s xs) (goes n nets s xs) o).state (if_some (stops_at n s xs) (goes n nets s xs) o).ready
      of_entry go None h = (xs, refl, kept)
      of_entry go (Some t) h =
          go t (with_new xs (filter (is_among (processes d)) (woken d s t))) (next n (count_at s.resolutions n) (orders n) s t (entered (is_entry d (net_entry s n (orders n))) (steps d (copies (net_entry s n (orders n))) s) t h) xs kept)

      of_count : ((t : MachineState) (ys : List Process) → K t ys → After nets t ys) → (b : Bool) → OneOf K (if b then resolve_nets d (processes d ∷ []) orders nets s (xs ∷ []) else if_some (stops_at n s xs) (goes n nets s xs) (enter d s (net_entry s n (orders n)))).state (if b then resolve_nets d (processes d ∷ []) orders nets s (xs ∷ []) else if_some (stops_at n s xs) (goes n nets s xs) (enter d s (net_entry s n (orders n)))).ready
      of_count go true = go s xs kept
      of_count go false = of_entry go (enter d s (net_entry s n (orders n))) refl

-- more at the end of a list
appended : (d : Design) (s : MachineState) (ys : List Process) (ready : List (List Process)) → OneListed d s ready → OneListed d s (with_woken (processes d ∷ []) ys ready)
appended d s ys ready (xs, is, listed) =
    (with_new xs (filter (is_among (processes d)) ys), ap (λ l. with_woken (processes d ∷ []) ys l) is, λ y there now. old_among xs (filter (is_among (processes d)) ys) y (listed y there now))

-- ---- a round
pub round_listed : RoundKeepsLists
unfolding round
round_listed d orders r (xs, is, listed) =
    let e = evaluate d r.state (xs ∷ []) r.away in
    let p = resolve_after d (processes d ∷ []) orders e in
    at (xs ∷ []) (sym is) (appended d p.state (combs_after d r p.state) p.ready (resolve_keeps d orders (Listed d) (λ n k order s t runs xs. published d n k order s t runs xs) (if is_some e.too_long then [] else range_with_len 0 (length d.nets)) e.state (phase quantum d r.state xs r.away).ready (phase_listed quantum d r.state xs r.away listed)))
  where
    after_state : List (List Process) → MachineState
    after_state l = (resolve_after d (processes d ∷ []) orders (evaluate d r.state l r.away)).state

    after_ready : List (List Process) → List (List Process)
    after_ready l =
        with_woken (processes d ∷ []) (combs_after d r (after_state l)) (resolve_after d (processes d ∷ []) orders (evaluate d r.state l r.away)).ready

    at : (l : List (List Process)) → l ≡ r.ready → OneListed d (after_state l) (after_ready l) → OneListed d (after_state r.ready) (after_ready r.ready)
    at l same h = subst (λ (x : List (List Process)). OneListed d (after_state x) (after_ready x)) same h
