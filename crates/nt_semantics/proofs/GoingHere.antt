-- Entries that are allowed one after another go on within a slot.
use Rattle.std.proofs.Common.{◌≡◌, ℕ, ◌+◌, ◌≤◌, true, List, [], ◌∷◌, length, Option, Some, None, option_and_then, refl, sym, ◌∙◌, ap, subst, arith, inl}
use Rattle.std.specs.Prelude.{All}
use Rattle.std.proofs.lemmas.List.Elements.{All-cons, All-nil}
use Rattle.std.proofs.lemmas.Option.{same_Some}
use Rattle.nt_design.specs.WellFormed.{IsDesign}
use Rattle.nt_design.specs.declared.design.Design.{Design}
use Rattle.nt_semantics.proofs.Acting.{step_active}
use Rattle.nt_semantics.proofs.Growing.{entry_grows, few_grow, test_is}
use Rattle.nt_semantics.proofs.MovingHere.{settle_active}
use Rattle.nt_semantics.proofs.RoundSteps.{entries_lead}
use Rattle.nt_semantics.proofs.StepKeeps.{steps_keep}
use Rattle.nt_semantics.proofs.Waking.{none_some, of_test}
use Rattle.nt_semantics.specs.Execution.{copies, enter, enter_all, expansion, is_entry, steps}
use Rattle.nt_semantics.specs.Laws.{EntriesGo}
use Rattle.nt_semantics.specs.Slots.{Few, run_here}
use Rattle.nt_semantics.specs.State.{MachineState}
use Rattle.nt_semantics.specs.StateFits.{IsStateOf}
use Rattle.nt_semantics.specs.Step.{step}
use Rattle.nt_semantics.specs.declared.event.Entry.{Entry}
use Rattle.nt_semantics.specs.declared.event.Event.{Event}

-- steps of active states need no move
pub runs_here : (d : Design) (es : List Event) (s t : MachineState) → steps d es s ≡ Some t → run_here d es s ≡ Some t
runs_here d [] s t h = h
runs_here d (e ∷ es) s t h = of_step (λ u g. runs_here d es u t g) (step d s e) refl h
  where
    of_step : ((u : MachineState) → steps d es u ≡ Some t → run_here d es u ≡ Some t) → (o : Option MachineState) → step d s e ≡ o → option_and_then (steps d es) o ≡ Some t → run_here d (e ∷ es) s ≡ Some t
    of_step rest None is g = absurd (none_some t g)
    of_step rest (Some u) is g =
        ap (λ x. option_and_then (run_here d es) (step d x e)) (settle_active s (step_active d s u e is)) ∙ (rw is (rest u g))

-- what entries leave
pub record Leaves (d : Design) (entries : List Entry) (s t : MachineState) : Type 0 where
  pub counted : All (λ (entry : Entry). is_entry d entry ≡ true) entries
  pub moment : t.moment ≡ s.moment
  pub moved : length t.moved ≤ length s.moved
  pub grows : (most : ℕ) → Few most s → Few (most + length entries) t

pub leaves : (d : Design) (entries : List Entry) (s t : MachineState) → IsDesign d → IsStateOf d s → enter_all d entries s ≡ Some t → Leaves d entries s t
leaves d [] s t design of h = record {
  counted = All-nil (λ (entry : Entry). is_entry d entry ≡ true);
  moment = ap (λ (u : MachineState). u.moment) (sym (same_Some s t h));
  moved = subst (λ (u : MachineState). length u.moved ≤ length s.moved) (same_Some s t h) (omega arith);
  grows = λ most few. subst (λ k. Few k t) (more_none most) (subst (Few most) (same_Some s t h) few);
}
  where
    more_none : (most : ℕ) → most ≡ most + 0
    more_none most = omega arith
leaves d (entry ∷ entries) s t design of h =
    of_entry (λ u fits g. leaves d entries u t design fits g) (enter d s entry) refl h
  where
    fewer_first : (most : ℕ) → (most + 1) + length entries ≡ most + length (entry ∷ entries)
    fewer_first most = omega arith

    of_entry : ((u : MachineState) → IsStateOf d u → enter_all d entries u ≡ Some t → Leaves d entries u t) → (o : Option MachineState) → enter d s entry ≡ o → option_and_then (enter_all d entries) o ≡ Some t → Leaves d (entry ∷ entries) s t
    of_entry rest None is g = absurd (none_some t g)
    of_entry rest (Some u) is g =
        let fits = steps_keep d (copies entry) s u design of (of_test (is_entry d entry) (steps d (copies entry) s) u is) in
        let more = rest u fits g in
        let first = entry_grows d s u entry design of is in
        record {
          counted = All-cons (λ (e : Entry). is_entry d e ≡ true) entry entries (test_is (is_entry d entry) (steps d (copies entry) s) u is) more.counted;
          moment = more.moment ∙ first.moment;
          moved = omega (arith, more.moved, first.moved);
          grows = λ most few. subst (λ k. Few k t) (fewer_first most) (more.grows (most + 1) (few_grow most s u first few));
        }

pub entries_go : EntriesGo
entries_go d entries s t design of h =
    let x = leaves d entries s t design of h in
    record {
      reached = t;
      runs = runs_here d (expansion entries) s t (entries_lead d entries s t h);
      here = inl refl;
      counted = x.counted;
      long = tt;
      moment = x.moment;
      grows = λ most some few. x.grows most few;
    }
