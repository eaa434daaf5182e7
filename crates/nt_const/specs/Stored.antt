-- A leaf that is known to be one.
use Rattle.std.specs.Prelude.{◌≡◌, refl}
use Rattle.nt_value.specs.Digits.{IsLeaf}
use Rattle.nt_value.specs.declared.leaf.Leaf.{Leaf}
use Rattle.nt_const.specs.declared.size.Size.TheInside.{Inside}

abbrev pub seen_size : Inside → Leaf
seen_size s = s.leaf

abbrev pub stored_size : Leaf → Inside
stored_size l = record { leaf = l }

abbrev pub IsSize : Inside → Type 0
IsSize s = IsLeaf s.leaf

pub stored_size-seen_size : (s : Inside) → IsSize s → stored_size (seen_size s) ≡ s
stored_size-seen_size s h = refl
