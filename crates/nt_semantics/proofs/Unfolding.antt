-- What holds of each statement to which a statement unfolds.
use Rattle.std.proofs.Common.{◌≡◌, List, [], ◌∷◌, map, refl, ap, sym, subst, ◌∙◌, arith}
use Rattle.std.specs.Prelude.{All}
use Rattle.std.specs.List.{flat_map}
use Rattle.std.proofs.lemmas.List.Elements.{All-append, All-cons, All-head, All-tail}
use denote.Hole.Carrier.{roll}
use Rattle.nt_value.specs.declared.place.Place.{Place as TextPlace}
use Rattle.nt_design.specs.declared.act.Act.{Act}
use Rattle.nt_design.specs.declared.act.Act.TheViews as view
use Rattle.nt_design.specs.declared.act.Act.TheViews.{roll-Act}
use Rattle.nt_design.specs.declared.act.Act.TheOpen.{Act-F}
use Rattle.nt_design.specs.declared.act.Act.TheFolds.{fold-Act, fold-roll-Act, ind-Act, map-Act}
use Rattle.nt_semantics.proofs.Equations.{to_do_block}
use Rattle.nt_semantics.specs.State.{to_do, unfolded}
use Rattle.nt_semantics.specs.declared.work.Work.{Work}
use Rattle.nt_semantics.specs.declared.work.Work.TheVariants.{Do}

-- P holds of each statement that has Q, and the statements of a block that has Q have it
module _ (P : Work → Type 0) (Q : Act → Type 0) (close : (acts : List Act) (at : TextPlace) → Q (view.Block acts at) → All Q acts) (base : (act : Act) → Q act → P (Do act)) where
  abbrev Claim : Act → Type 0
  Claim act = Q act → All P (to_do act)

  abbrev Below : Type 0
  Below = (act : Act) × Claim act

  opened : (x : Act-F Act) → to_do (roll-Act x) ≡ unfolded (map-Act Act (Act → List Work) (fold-Act (Act → List Work) unfolded) x) (roll-Act x)
  unfolding to_do
  opened x = ap (λ f. f (roll-Act x)) (fold-roll-Act (Act → List Work) unfolded x)

  one_item : (act : Act) → Q act → All P (Do act ∷ [])
  one_item act q = All-cons P (Do act) [] (base act q) (λ k i low. absurd (omega (arith, low)))

  all_blocks : (bs : List Below) → All Q (map (λ (e : Below). e.0) bs) → All P (flat_map to_do (map (λ (e : Below). e.0) bs))
  all_blocks [] h = λ k i low. absurd (omega (arith, low))
  all_blocks (b ∷ bs) h =
      All-append P (to_do b.0) (flat_map to_do (map (λ (e : Below). e.0) bs)) (b.1 (All-head Q b.0 (map (λ (e : Below). e.0) bs) h)) (all_blocks bs (All-tail Q b.0 (map (λ (e : Below). e.0) bs) h))

  alone : (x : Act-F Act) → unfolded (map-Act Act (Act → List Work) (fold-Act (Act → List Work) unfolded) x) (roll-Act x) ≡ Do (roll-Act x) ∷ [] → Claim (roll-Act x)
  alone x is q = subst (All P) (sym (opened x ∙ is)) (one_item (roll-Act x) q)

  rolled : (y : Act-F Below) → Claim (roll-Act (map-Act Below Act (λ e. e.0) y))
  unfolding roll-Act roll
  rolled (Act-F.Block [] at) q = alone (Act-F.Block [] at) refl q
  rolled (Act-F.Block (b ∷ bs) at) q =
      subst (All P) (sym (to_do_block b.0 (map (λ (e : Below). e.0) bs) at)) (all_blocks (b ∷ bs) (close (map (λ (e : Below). e.0) (b ∷ bs)) at q))
  rolled y q = alone (map-Act Below Act (λ e. e.0) y) refl q

  pub all_unfold : (act : Act) → Claim act
  all_unfold = ind-Act Claim (λ x y is. subst (λ z. Claim (roll-Act z)) is (rolled y))
