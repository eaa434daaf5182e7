-- A write through a path, one step after the other.
use Rattle.std.proofs.Common.{◌≡◌, ◌<◌, ◌≤◌, ℕ, zero, suc, ◌-◌, List, [], ◌∷◌, length, take, drop, refl, ap, sym, ◌∙◌, subst, arith}
use Rattle.std.specs.Prelude.{slice_index_or}
use Rattle.std.proofs.lemmas.List.{length-drop, length-map, length-take}
use Rattle.std.proofs.lemmas.List.Elements.{All-tail}
use Rattle.nt_value.specs.Digits.{LeafValue}
use Rattle.nt_value.specs.Values.{IsValueOf, shape_of}
use Rattle.nt_design.proofs.Filled.{part_by_filled}
use Rattle.nt_design.proofs.Writes.{part_has, with_part_has, written_has}
use Rattle.nt_design.specs.Parts.{Value, part_by, with_part_by, written}
use Rattle.nt_parts.specs.Steps.{IsStep, IsWrite, step_at, steps_at}
use Rattle.nt_parts.specs.declared.step.Step.{Step}

take_whole : {A : Type 0} (n : ℕ) (xs : List A) → n ≡ length xs → take n xs ≡ xs
take_whole zero [] h = refl
take_whole (suc n) [] h = refl
take_whole zero (x ∷ xs) h = absurd (omega (arith, h))
take_whole (suc n) (x ∷ xs) h = ap (λ l. x ∷ l) (take_whole n xs (omega (arith, h)))

-- what follows the first step, as slices have it
rest_is : (step : Step) (steps : List Step) → take (length (step ∷ steps) - 1) (drop 1 (step ∷ steps)) ≡ steps
rest_is step steps = drop_first step steps ∙ take_whole (length (step ∷ steps) - 1) steps (omega arith)
  where
    nothing : (steps : List Step) → drop 0 steps ≡ steps
    nothing [] = refl
    nothing (s ∷ steps) = refl

    drop_first : (step : Step) (steps : List Step) → take (length (step ∷ steps) - 1) (drop 1 (step ∷ steps)) ≡ take (length (step ∷ steps) - 1) steps
    drop_first step steps = ap (take (length (step ∷ steps) - 1)) (nothing steps)

-- the part to which the first step leads may be written at the end of the others
pub rest_write : (steps : List Step) (d : Step) (new old part : Value) → IsWrite steps new old → 1 ≤ length steps → part ≡ part_by (step_at (slice_index_or steps 0 d)) old → IsWrite (take (length steps - 1) (drop 1 steps)) new part
rest_write [] d new old part h some is = absurd (omega (arith, some))
rest_write (step ∷ steps) d new old part h some is =
    subst (λ l. IsWrite l new part) (sym (rest_is step steps)) (record {
      whole = h.leads.0;
      part = h.part;
      leads = h.leads.2;
      before = subst (IsValueOf h.leads.0) (sym is) (record {
        leaves = part_has (step_at step) h.whole h.leads.0 h.leads.1 old h.before.leaves;
        filled = part_by_filled (step_at step) old h.before.filled;
      });
      after = h.after;
      may = All-tail IsStep step steps h.may;
    })

-- it has no more leaves then
pub few_leaves : (steps : List Step) (d : Step) (new old part changed : Value) → IsWrite steps new old → 1 ≤ length steps → part ≡ part_by (step_at (slice_index_or steps 0 d)) old → changed ≡ written (steps_at (take (length steps - 1) (drop 1 steps))) new part → length (with_part_by (step_at (slice_index_or steps 0 d)) changed old) ≤ length old
few_leaves [] d new old part changed h some is then = absurd (omega (arith, some))
few_leaves (step ∷ steps) d new old part changed h some is then =
    let step_to = part_has (step_at step) h.whole h.leads.0 h.leads.1 old h.before.leaves in
    let inner = ap shape_of then ∙ (ap (λ l. shape_of (written (steps_at l) new part)) (rest_is step steps) ∙ written_has (steps_at steps) h.leads.0 h.part h.leads.2 new part (ap shape_of is ∙ step_to) h.after.leaves) in
    let whole = with_part_has (step_at step) h.whole h.leads.0 h.leads.1 changed old h.before.leaves inner in
    let a = length-map (with_part_by (step_at step) changed old) (λ (v : LeafValue). v.leaf) in
    let b = length-map old (λ (v : LeafValue). v.leaf) in
    let e = ap length whole in
    let f = ap length h.before.leaves in
    omega (arith, a, b, e, f)

-- the steps after the first are fewer
pub shorter : (steps : List Step) (t : ℕ) → length steps ≡ t → 1 ≤ length steps → length (take (length steps - 1) (drop 1 steps)) < t
shorter steps t e some =
    let a = length-take (length steps - 1) (drop 1 steps) in
    let b = length-drop 1 steps in
    omega (arith, a, b, e, some)
