-- Past the end of one of the lists nothing matches.
use Rattle.std.proofs.Common.{◌≡◌, ℕ, ◌≤◌, min, false, List, [], ◌∷◌, length, drop, refl, arith, ◌⊎◌, inl, inr}
use Rattle.std.proofs.lemmas.List.{drop_all}
use Rattle.nt_value.specs.declared.kind.Edge.{Edge}
use Rattle.nt_design.specs.Parts.{Value}
use Rattle.nt_design.specs.declared.tree.Tree.{Tree}
use Rattle.nt_semantics.specs.Wake.{some_match}

abbrev Ons : Type 0
Ons = List (Edge × Tree)

no_kept : (on : Ons) (new : List Value) → some_match on [] new ≡ false
no_kept [] new = refl
no_kept (e ∷ on) new = refl

no_new : (on : Ons) (kept : List Value) → some_match on kept [] ≡ false
no_new [] kept = refl
no_new (e ∷ on) [] = refl
no_new (e ∷ on) (k ∷ kept) = refl

shortest : (a b c at : ℕ) → min (min a b) c ≤ at → (a ≤ at) ⊎ ((b ≤ at) ⊎ (c ≤ at))
shortest a b c at h = grind arith

pub none_past : (on : Ons) (kept new : List Value) (at : ℕ) → min (min (length on) (length kept)) (length new) ≤ at → some_match (drop at on) (drop at kept) (drop at new) ≡ false
none_past on kept new at h = elim (shortest (length on) (length kept) (length new) at h) [
  | inl a ↦ rw (drop_all at on a) refl
  | inr (inl b) ↦ rw (drop_all at kept b) (no_kept (drop at on) (drop at new))
  | inr (inr c) ↦ rw (drop_all at new c) (no_new (drop at on) (drop at kept))
]
