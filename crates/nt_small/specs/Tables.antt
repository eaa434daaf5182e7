-- What a table holds of the items that it was made of.
use Rattle.std.specs.Prelude.{◌≡◌, ℕ, List, Option, Some, map, slice_get}
use Rattle.std.specs.List.{flat_map, Contains}
use Rattle.nt_small.specs.Grammar.{Item, declared_nets, driven_nets}
use Rattle.nt_small.specs.Elaboration.{position_of, assigns_of_item}
use Rattle.nt_small.specs.declared.table.Table.{Table}

-- no element stands twice
abbrev pub Distinct : {X : Type 0} → List X → Type 0
Distinct {X} xs = (i j : ℕ) (x : X) → slice_get xs i ≡ Some x → slice_get xs j ≡ Some x → i ≡ j

-- no net is declared or driven twice, and each driven net is declared
pub record AreSound (items : List Item) : Type 0 where
  pub declared : Distinct (declared_nets items)
  pub driven : Distinct (driven_nets items)
  pub listed : (net : List ℕ) → Contains (driven_nets items) net → Contains (declared_nets items) net

-- for each name, where it stands among the driven nets
abbrev pub drivers_of : List (List ℕ) → List (List ℕ) → List (Option ℕ)
drivers_of driven names = map (λ name. position_of name driven) names

-- the declared nets, the assignment that drives each of them, and the assignments
pub record IsTable (table : Table) (items : List Item) : Type 0 where
  pub names : table.names ≡ declared_nets items
  pub drivers : table.drivers ≡ drivers_of (driven_nets items) (declared_nets items)
  pub assigns : table.assigns ≡ flat_map (assigns_of_item (declared_nets items)) items
  pub sound : AreSound items
