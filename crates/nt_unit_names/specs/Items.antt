-- What the items of files and packages declare and import (IEEE 1800-2017, 3.12, 3.13, 26.2, 26.3).
use Rattle.std.specs.Prelude.{ℕ, ◌==◌, ◌&&◌, ◌||◌, nat_lt, Bool, false, List, Option, Some, None}
use Rattle.std.specs.List.{list_any}
use Rattle.std.specs.Str.{bytes_eq}
use Rattle.nt_value.specs.declared.place.Place.{Place}
use Rattle.nt_items.specs.declared.item.Item.{Item}
use Rattle.nt_items.specs.declared.item.Item.TheOpen.{Item-F}
use Rattle.nt_items.specs.declared.item.Item.TheViews.{out-Item}

-- the first node of an item
abbrev pub ItemNode : Type 0
ItemNode = Item-F Item

-- the name that an item declares
abbrev pub declared_name : ItemNode → Option (List ℕ)
declared_name (Item-F.Package at name items) = Some name
declared_name (Item-F.Module at name params ports items) = Some name
declared_name (Item-F.Import at scope name) = None
declared_name (Item-F.Typedef at kind what) = Some what.name
declared_name (Item-F.Nettype item) = Some item.name
declared_name (Item-F.Function item) = Some item.name
declared_name (Item-F.Param at local kind what) = Some what.name
declared_name (Item-F.Net at kind of what) = Some what.name
declared_name (Item-F.Var at of what) = Some what.name
declared_name (Item-F.Assign at left right) = None
declared_name (Item-F.Instance at module_at of params name ports) = Some name
declared_name (Item-F.Procedure item) = None

-- where an item stands: one that declares a name at that name
abbrev pub item_place : ItemNode → Place
item_place (Item-F.Package at name items) = at
item_place (Item-F.Module at name params ports items) = at
item_place (Item-F.Import at scope name) = at
item_place (Item-F.Typedef at kind what) = at
item_place (Item-F.Nettype item) = item.at
item_place (Item-F.Function item) = item.at
item_place (Item-F.Param at local kind what) = at
item_place (Item-F.Net at kind of what) = at
item_place (Item-F.Var at of what) = at
item_place (Item-F.Assign at left right) = at
item_place (Item-F.Instance at module_at of params name ports) = at
item_place (Item-F.Procedure item) = item.at

abbrev pub is_name : List ℕ → Option (List ℕ) → Bool
is_name name None = false
is_name name (Some own) = bytes_eq name own

-- an item declares this name; one of several does
abbrev pub declares : List ℕ → Item → Bool
declares name x = is_name name (declared_name (out-Item x))

abbrev pub is_declared : List ℕ → List Item → Bool
is_declared name items = list_any (declares name) items

-- earlier by file, and then by offset
abbrev pub is_before : Place → Place → Bool
is_before a b = nat_lt a.file b.file || ((a.file == b.file) && nat_lt a.offset b.offset)

-- a package of this name that stands before a place; one that declares a name besides (26.3)
abbrev pub is_package_at : Place → List ℕ → ItemNode → Bool
is_package_at at scope (Item-F.Package own name items) = bytes_eq scope name && is_before own at
is_package_at at scope _ = false

abbrev pub is_package_with : Place → List ℕ → List ℕ → ItemNode → Bool
is_package_with at scope n (Item-F.Package own name items) = (bytes_eq scope name && is_before own at) && is_declared n items
is_package_with at scope n _ = false

-- whether the unit has what an import names: a package, or a name in a package
abbrev pub is_there : List Item → Place → List ℕ → Option (List ℕ) → Bool
is_there unit at scope None = list_any (λ x. is_package_at at scope (out-Item x)) unit
is_there unit at scope (Some n) = list_any (λ x. is_package_with at scope n (out-Item x)) unit
