-- Values with one leaf replaced.
use Rattle.std.proofs.Common.{◌≡◌, ℕ, zero, suc, List, [], ◌∷◌, Some, refl, sym, ap}
use Rattle.std.specs.Prelude.{slice_get, slice_set}
use Rattle.nt_value.specs.declared.leaf.Leaf.{Leaf}
use Rattle.nt_value.specs.Digits.{LeafValue}
use Rattle.nt_value.specs.Values.{shape_of}

-- a leaf put at the place of an equal one changes no shape
pub shape_of-put : (vs : List LeafValue) (k : ℕ) (v : LeafValue) → slice_get (shape_of vs) k ≡ Some v.leaf → shape_of (slice_set vs k v) ≡ shape_of vs
shape_of-put [] k v h = refl
shape_of-put (w ∷ vs) zero v h = let e : w.leaf ≡ v.leaf = cc in ap (λ (l : Leaf). l ∷ shape_of vs) (sym e)
shape_of-put (w ∷ vs) (suc k) v h = ap (λ (ls : List Leaf). w.leaf ∷ ls) (shape_of-put vs k v h)
