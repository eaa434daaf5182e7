-- What a write with an evaluated path puts into a variable: which leaves, or which digits of one leaf (IEEE 1800-2017,
-- 10.4, 11.5.1).
use Rattle.std.specs.Prelude.{◌≡◌, ◌≤◌, ℕ, zero, suc, ◌+◌, ◌-◌, ◌*◌, ◌/◌, min, max, List, [], length, Some, None, slice_get, pos, negsuc, ◌∷◌}
use Rattle.nt_value.specs.Digits.{LeafValue}
use Rattle.nt_value.specs.Operators.{part_of}
use Rattle.nt_value.specs.Values.{IsValueOf, shape_of}
use Rattle.nt_value.specs.declared.leaf.Leaf.{Leaf}
use Rattle.nt_design.specs.Parts.{Value, only, one, leaves_at, with_leaves, with_part, Step, IntoLeaves, IntoItem, IntoPart}
use Rattle.nt_design.specs.declared.put.Put.{Put}

-- Where a path leads in a value: nowhere, to so many leaves from one on, or into one leaf. There `low` less `skip` is the
-- digit at which what is written begins, and the digits from `first` up to `end` are those that a write changes.
pub data Spot : Type 0 where
  Nowhere : Spot
  AtLeaves : (first : ℕ) → (count : ℕ) → Spot
  AtDigits : (leaf : ℕ) → (low : ℕ) → (skip : ℕ) → (first : ℕ) → (end : ℕ) → Spot

-- a step from leaves into a part of them. An element past the bounds is nowhere (7.4.6), and so are digits from an unknown
-- one on (11.5.1)
abbrev pub step_into : Step → ℕ → ℕ → Spot
step_into (IntoLeaves first count) from n = AtLeaves (from + first) count
step_into (IntoItem None size) from n = Nowhere
step_into (IntoItem (Some position) size) from n = AtLeaves (from + position * (n / size)) (n / size)
step_into (IntoPart None width) from n = Nowhere
step_into (IntoPart (Some (pos low)) width) from n = AtDigits from low 0 low (low + width)
step_into (IntoPart (Some (negsuc below)) width) from n = AtDigits from 0 (suc below) 0 (width - suc below)

-- so many digits from one on, of those that are written
abbrev pub narrowed : ℕ → ℕ → ℕ → ℕ → ℕ → ℕ → Spot
narrowed leaf low skip width first end =
    AtDigits leaf low skip (max first (low - skip)) (min end (low + width - skip))

-- a step from digits of a leaf into a part of them (11.5.1). They are one leaf, which is its own only element
abbrev pub step_on : Step → ℕ → ℕ → ℕ → ℕ → ℕ → Spot
step_on (IntoLeaves at zero) leaf low skip first end = Nowhere
step_on (IntoLeaves at (suc n)) leaf low skip first end = AtDigits leaf low skip first end
step_on (IntoItem None size) leaf low skip first end = Nowhere
step_on (IntoItem (Some position) size) leaf low skip first end = AtDigits leaf low skip first end
step_on (IntoPart None width) leaf low skip first end = Nowhere
step_on (IntoPart (Some (pos more)) width) leaf low skip first end =
    narrowed leaf (low + more) skip width first end
step_on (IntoPart (Some (negsuc below)) width) leaf low skip first end =
    narrowed leaf low (skip + suc below) width first end

abbrev pub into : Step → Spot → Spot
into step Nowhere = Nowhere
into step (AtLeaves first count) = step_into step first count
into step (AtDigits leaf low skip first end) = step_on step leaf low skip first end

abbrev pub spot_of : List Step → Spot → Spot
spot_of [] spot = spot
spot_of (step ∷ path) spot = spot_of path (into step spot)

-- a write of leaves from one on
abbrev pub leaves_put : ℕ → ℕ → Value → Put
leaves_put v first value = record { var = v; first = first; low = 0; width = 0; value = value }

-- a write of nothing
abbrev pub nothing_put : ℕ → Put
nothing_put v = leaves_put v 0 []

-- a write of so many digits of a leaf from one on, which are those of a value from one on
abbrev pub digits_put : ℕ → ℕ → ℕ → ℕ → LeafValue → ℕ → Put
digits_put v leaf low from value zero = nothing_put v
digits_put v leaf low from value (suc n) =
    record { var = v; first = leaf; low = low; width = suc n; value = one (part_of value from (suc n)) }

-- a write at a spot of the variable that has this value. Of a bit or part only the digits inside its leaf are written
-- (11.5.1)
abbrev pub put_at : ℕ → Value → Spot → Value → Put
put_at v old Nowhere value = nothing_put v
put_at v old (AtLeaves first count) value = leaves_put v first value
put_at v old (AtDigits leaf low skip first end) value =
    digits_put v leaf first (first + skip - low) (only value) (min end (only (leaves_at leaf 1 old)).leaf.width - first)

-- a write at the end of a path into the variable that has this value
abbrev pub put_of : ℕ → Value → List Step → Value → Put
put_of v old path value = put_at v old (spot_of path (AtLeaves 0 (length old))) value

-- a value after a write of so many digits from one on of a leaf, or of leaves where it is none
abbrev pub put_in : ℕ → ℕ → ℕ → Value → Value → Value
put_in first low zero new value = with_leaves first (length new) new value
put_in first low (suc n) new value =
    with_leaves first 1 (one (with_part (Some (pos low)) (only new) (only (leaves_at first 1 value)))) value

-- a variable's value after a write
unfoldable pub after_put : Put → Value → Value
after_put put value = put_in put.first put.low put.width put.value value

-- a write of whole leaves is a value of leaves inside a variable of this shape, or one of digits lies inside one leaf
abbrev pub PutInside : List Leaf → ℕ → ℕ → ℕ → Value → Type 0
PutInside shape first low zero new = IsValueOf (leaves_at first (length new) shape) new
PutInside shape first low (suc n) new =
    (leaf written : Leaf) × ((slice_get shape first ≡ Some leaf) × ((shape_of new ≡ written ∷ []) × ((written.width ≡ suc n) × (low + suc n ≤ leaf.width))))
