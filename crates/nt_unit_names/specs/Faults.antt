-- The faults of names of packages, of the unit and of modules: T5 at a second name, T4 at an import of what there is not.
use Rattle.std.specs.Prelude.{◌≡◌, ℕ, true, false, List, [], ◌++◌, take, Option, Some, Result, Ok, Err}
use Rattle.std.specs.List.{flat_map}
use Rattle.nt_value.specs.declared.place.Place.{Place}
use Rattle.nt_diag.specs.declared.refusal.Refusal.{Refusal}
use Rattle.nt_diag.specs.declared.refusal.Fault.{Fault as Failure}
use Rattle.nt_diag.specs.declared.refusal.Fault.TheVariants as failure
use Rattle.nt_diag.specs.declared.rule.Rule.{Rule}
use Rattle.nt_diag.specs.declared.rule.Rule.TheVariants as rule
use Rattle.nt_diag.specs.Order.{IsLeast, AmongAll}
use Rattle.nt_items.specs.declared.item.Item.{Item}
use Rattle.nt_items.specs.declared.item.Item.TheOpen.{Item-F}
use Rattle.nt_items.specs.declared.item.Item.TheViews.{out-Item}
use Rattle.nt_items.specs.declared.item.Units.{Units}
use Rattle.nt_unit_names.specs.Items.{ItemNode, declared_name, item_place, is_declared, is_there}

abbrev pub refusal : Rule → Place → Refusal
refusal r p = record { rule = r; place = p }

-- the items of all files
abbrev pub unit_of : List Units → List Item
unit_of files = flat_map (λ f. f.items) files

-- a fault of an item, after those that stand before it in its scope (26.3, 3.13)
pub data ItemFault (unit before : List Item) : ItemNode → Refusal → Type 0 where
  twice : (x : ItemNode) (name : List ℕ) → declared_name x ≡ Some name → is_declared name before ≡ true → ItemFault unit before x (refusal rule.T5 (item_place x))
  missing : (at : Place) (scope : List ℕ) (name : Option (List ℕ)) → is_there unit at scope name ≡ false → ItemFault unit before (Item-F.Import at scope name) (refusal rule.T4 at)

-- in the items of one scope, after those before them
abbrev pub ScopeFault : List Item → List Item → List Item → Refusal → Type 0
ScopeFault unit before items r = AmongAll (λ k x r. ItemFault unit (before ++ take k items) (out-Item x) r) items r

-- in a package
pub data PackageFault (unit : List Item) : ItemNode → Refusal → Type 0 where
  in_package : {r : Refusal} (at : Place) (name : List ℕ) (items : List Item) → ScopeFault unit [] items r → PackageFault unit (Item-F.Package at name items) r

-- the names of a file of the unit, after the files before it
abbrev pub FileFault : List Item → List Units → ℕ → Units → Refusal → Type 0
FileFault unit files n file r = ScopeFault unit (unit_of (take n files)) file.items r

abbrev pub PackagesFault : List Item → ℕ → Units → Refusal → Type 0
PackagesFault unit n file r = AmongAll (λ k x r. PackageFault unit (out-Item x) r) file.items r

-- all of them
pub data NameFault (files : List Units) (r : Refusal) : Type 0 where
  in_unit : AmongAll (FileFault (unit_of files) files) files r → NameFault files r
  in_packages : AmongAll (PackagesFault (unit_of files)) files r → NameFault files r

abbrev pub Checks : List Units → Result (Unit {0}) Failure → Type 0
Checks files (Ok u) = (r : Refusal) → NameFault files r → ⊥
Checks files (Err (failure.Refused r)) = IsLeast (NameFault files) r
Checks files (Err (failure.OutOfMemory e)) = Unit {0}
