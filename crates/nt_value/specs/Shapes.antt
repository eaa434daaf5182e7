-- Shapes of values.
use Rattle.std.specs.Prelude.{◌≤◌, List, All, length}
use Rattle.nt_value.specs.Digits.{IsLeaf}
use Rattle.nt_value.specs.declared.leaf.Leaf.{Leaf}
use Rattle.nt_value.specs.declared.value.TheConstants.{MOST_LEAVES}

-- at most 64 leaves, this project's limit, each of a width that a leaf may have
pub record IsShape (leaves : List Leaf) : Type 0 where
  pub within : length leaves ≤ MOST_LEAVES
  pub valid : All IsLeaf leaves
