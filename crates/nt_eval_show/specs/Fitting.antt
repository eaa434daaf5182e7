-- An expression fits an environment of any design of nothing.
use Rattle.std.specs.Prelude.{◌≡◌, ◌≤◌, [], List, length}
use Rattle.nt_value.specs.declared.leaf.Leaf.{Leaf}
use Rattle.nt_design.specs.Parts.{Value}
use Rattle.nt_design.specs.WellFormed.{AreElements, Fits, first_shape}
use Rattle.nt_design.specs.declared.design.Design.{Design}
use Rattle.nt_design.specs.declared.env.Env.{Env}
use Rattle.nt_design.specs.declared.tree.Tree.{Tree}

abbrev pub FitsAny : Env → Tree → Type 0
FitsAny env tree = (d : Design) → d.nets ≡ [] → d.vars ≡ [] → d.functions ≡ [] → Fits d env tree

-- elements of a resolver's argument, of which there is one, have this shape
pub record IsElement (many : List Value) (shape : List Leaf) : Type 0 where
  pub first : first_shape many ≡ shape
  pub some : 1 ≤ length many
  pub elements : AreElements shape many
