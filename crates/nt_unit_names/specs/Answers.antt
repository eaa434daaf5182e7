-- What the walks over names answer, part by part (for the proof alone).
use Rattle.std.specs.Prelude.{◌≡◌, ℕ, Bool, false, is_some, List, [], ◌∷◌, ◌++◌, Option, Some, None}
use Rattle.std.specs.Map.{lookup}
use Rattle.std.specs.Str.{bytes_eq}
use Rattle.nt_diag.specs.declared.refusal.Refusal.{Refusal}
use Rattle.nt_diag.specs.Order.{IsLeastOf}
use Rattle.nt_items.specs.declared.item.Item.{Item}
use Rattle.nt_items.specs.declared.item.Item.TheViews.{out-Item}
use Rattle.nt_scopes.specs.Means.{Names}
use Rattle.nt_unit_names.specs.Items.{is_declared, declared_name}
use Rattle.nt_unit_names.specs.Faults.{ItemFault, ScopeFault}

-- a scope has the names of these items
pub record Holds (scope : Names) (items : List Item) : Type 0 where
  pub same : (name : List ℕ) → is_some (lookup (bytes_eq name) scope.names) ≡ is_declared name items

abbrev pub is_again : Option (List ℕ) → List Item → Bool
is_again None before = false
is_again (Some name) before = is_declared name before

pub record ItemTold (unit before : List Item) (x : Item) (scope : Names) (r : Option Refusal) : Type 0 where
  pub best : IsLeastOf (ItemFault unit before (out-Item x)) r
  pub holds : Holds scope (before ++ x ∷ [])

pub record ScopeTold (unit before items : List Item) (scope : Names) (r : Option Refusal) : Type 0 where
  pub best : IsLeastOf (ScopeFault unit before items) r
  pub holds : Holds scope (before ++ items)

pub record AgainTold (before : List Item) (x : Item) (scope : Names) (b : Bool) : Type 0 where
  pub is : b ≡ is_again (declared_name (out-Item x)) before
  pub holds : Holds scope (before ++ x ∷ [])

abbrev pub TellsItem : List Item → Names → Item → Names → Option Refusal → Type 0
TellsItem unit old x new r = (before : List Item) → Holds old before → ItemTold unit before x new r

abbrev pub TellsScope : List Item → Names → List Item → Names → Option Refusal → Type 0
TellsScope unit old items new r = (before : List Item) → Holds old before → ScopeTold unit before items new r

-- whether the name of an item is one that the scope has already, and the scope with it
abbrev pub TellsAgain : Names → Item → Names → Bool → Type 0
TellsAgain old x new b = (before : List Item) → Holds old before → AgainTold before x new b
