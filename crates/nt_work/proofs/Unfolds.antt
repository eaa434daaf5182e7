-- What a statement is to do, by its form.
use Rattle.std.proofs.Common.{◌≡◌, List, [], ◌∷◌, refl, ap}
use Rattle.std.specs.Prelude.{IsTrue, true, false}
use Rattle.std.specs.List.{flat_map}
use denote.Hole.Carrier.{roll}
use Rattle.nt_value.specs.declared.place.Place.{Place}
use Rattle.nt_design.specs.declared.act.Act.{Act}
use Rattle.nt_design.specs.declared.act.Act.TheViews as view
use Rattle.nt_design.specs.declared.act.Act.TheViews.{roll-Act, out-roll-Act}
use Rattle.nt_design.specs.declared.act.Act.TheOpen.{Act-F}
use Rattle.nt_design.specs.declared.act.Act.TheFolds.{fold-Act, fold-roll-Act, ind-Act, map-Act}
use Rattle.nt_semantics.proofs.Equations.{to_do_block}
use Rattle.nt_semantics.specs.State.{to_do, unfolded}
use Rattle.nt_semantics.specs.declared.work.Work.{Work}
use Rattle.nt_semantics.specs.declared.work.Work.TheVariants.{Do}

-- a block with statements is those
pub block_is_all : (acts : List Act) (at : Place) → (acts ≡ [] → IsTrue false) → to_do (view.Block acts at) ≡ flat_map to_do acts
block_is_all [] at h = absurd (nothing (h refl))
  where
    nothing : IsTrue false → ⊥
    nothing n = cc
block_is_all (a ∷ acts) at h = to_do_block a acts at

abbrev Other : Act → Type 0
Other act = (acts : List Act) (at : Place) → act ≡ view.Block acts at → ⊥

abbrev Alone : Act → Type 0
Alone act = Other act → to_do act ≡ Do act ∷ []

opened : (x : Act-F Act) → to_do (roll-Act x) ≡ unfolded (map-Act Act (Act → List Work) (fold-Act (Act → List Work) unfolded) x) (roll-Act x)
unfolding to_do
opened x = ap (λ f. f (roll-Act x)) (fold-roll-Act (Act → List Work) unfolded x)

rolled : (x : Act-F Act) → Alone (roll-Act x)
unfolding roll-Act roll
rolled (Act-F.Block acts at) h = absurd (h acts at refl)
rolled x h = opened x

-- any other statement is itself
pub alone_is : (act : Act) → Other act → to_do act ≡ Do act ∷ []
alone_is = ind-Act Alone (λ x y is. rolled x)

-- an empty block is itself
pub empty_is : (acts : List Act) (at : Place) → (IsTrue true → acts ≡ []) → to_do (view.Block acts at) ≡ Do (view.Block acts at) ∷ []
unfolding roll-Act roll
empty_is [] at h = opened (Act-F.Block [] at)
empty_is (a ∷ acts) at h = absurd (some (h refl))
  where
    some : a ∷ acts ≡ [] → ⊥
    some is = cc
