-- The scopes of units: the unit, and the packages and modules in it (IEEE 1800-2017, 3.12.1, 23.9, 26.2).
use Rattle.std.specs.Prelude.{◌≡◌, ℕ, suc, ◌+◌, ◌==◌, ◌&&◌, nat_le, Bool, true, false, if◌then◌else◌, List, [], ◌∷◌, ◌++◌, map, length, slice_get, Option, Some, None}
use Rattle.std.specs.List.{flat_map}
use Rattle.std.specs.Map.{lookup}
use Rattle.std.specs.Str.{bytes_eq}
use Rattle.nt_value.specs.declared.place.Place.{Place}
use Rattle.nt_ast.specs.declared.path.Path.{Path}
use Rattle.nt_ast.specs.declared.types.TypeTree.{TypeTree}
use Rattle.nt_ast.specs.declared.types.TypeTree.TheViews.{out-TypeTree}
use Rattle.nt_items.specs.declared.item.Item.{Item}
use Rattle.nt_items.specs.declared.item.Item.TheOpen.{Item-F}
use Rattle.nt_items.specs.declared.item.Item.TheViews.{out-Item}
use Rattle.nt_scopes.specs.declared.scope.Entry.{Entry}
use Rattle.nt_scopes.specs.declared.scope.Import.{Import}
use Rattle.nt_scopes.specs.declared.scope.Look.{Look}
use Rattle.nt_scopes.specs.declared.scope.Look.TheVariants as look
use Rattle.nt_scopes.specs.Means.{Names, added, counts, Means, MeansOf}
use Rattle.nt_type_trees.specs.Types.{type_place}
use Rattle.nt_types.specs.declared.parts.What.{What}
use Rattle.nt_types.specs.declared.units.Home.{Home}
use Rattle.nt_types.specs.Parts.{Part, unit_name, parts_of, inner_parts, names_from}
use Rattle.nt_unit_names.specs.Items.{ItemNode}

-- the items inside a package or module
abbrev pub inner_items : ItemNode → List Item
inner_items (Item-F.Package at name items) = items
inner_items (Item-F.Module at name params ports items) = items
inner_items _ = []

-- packages by name, with the numbers of their scopes: the unit has the number 0, the item k of the unit k + 1
abbrev pub package_added : List (List ℕ × Entry) → ℕ → ItemNode → List (List ℕ × Entry)
package_added names n (Item-F.Package at name items) = added names name (record { from = Some at; number = n })
package_added names n _ = names

abbrev pub packages_from : List (List ℕ × Entry) → ℕ → List Item → List (List ℕ × Entry)
packages_from names n [] = names
packages_from names n (x ∷ xs) = packages_from (package_added names n (out-Item x)) (suc n) xs

abbrev pub packages_of : List Item → List (List ℕ × Entry)
packages_of unit = packages_from [] 1 unit

-- an import of a package that stands before it
abbrev pub import_by : Option Entry → Place → Option (List ℕ) → List Import
import_by None at name = []
import_by (Some e) at name = if counts e.from at then record { at = at; «package» = e.number; name = name } ∷ [] else []

abbrev pub imports_of : List (List ℕ × Entry) → ItemNode → List Import
imports_of packages (Item-F.Import at scope name) = import_by (lookup (bytes_eq scope) packages) at name
imports_of packages _ = []

abbrev pub all_imports : List (List ℕ × Entry) → List Item → List Import
all_imports packages items = flat_map (λ x. imports_of packages (out-Item x)) items

-- a scope whose declarations have the numbers from n on
abbrev pub scope_of : List (List ℕ × Entry) → ℕ → List Part → List Item → Names
scope_of packages n parts items = record { names = names_from [] n parts; imports = all_imports packages items }

-- what is declared has numbers in the order of the source: what an item of the unit declares, and then what is declared in it
abbrev pub parts_under : Option (List ℕ) → ItemNode → List Part
parts_under scope x = parts_of scope x ++ inner_parts x

abbrev pub unit_parts : Option (List ℕ) → List Item → List Part
unit_parts scope unit = flat_map (λ x. parts_under scope (out-Item x)) unit

-- the names of the unit, whose declarations and those in them have the numbers from n on
abbrev pub unit_names : Option (List ℕ) → List (List ℕ × Entry) → ℕ → List Item → List (List ℕ × Entry)
unit_names scope names n [] = names
unit_names scope names n (x ∷ xs) = unit_names scope (names_from names n (parts_of scope (out-Item x))) (n + length (parts_under scope (out-Item x))) xs

-- the scope of each item of the unit: that of what is no package and no module is empty
abbrev pub inner_scopes : Option (List ℕ) → List (List ℕ × Entry) → ℕ → List Item → List Names
inner_scopes scope packages n [] = []
inner_scopes scope packages n (x ∷ xs) =
    scope_of packages (n + length (parts_of scope (out-Item x))) (inner_parts (out-Item x)) (inner_items (out-Item x))
    ∷ inner_scopes scope packages (n + length (parts_under scope (out-Item x))) xs

-- a scope of these parts and of what these items import, and what is added to the list of all that is declared
pub record IsScope (packages : List (List ℕ × Entry)) (before after : List What) (parts : List Part) (items : List Item) (s : Names) : Type 0 where
  pub names : s.names ≡ names_from [] (length before) parts
  pub imports : s.imports ≡ all_imports packages items
  pub whats : after ≡ before ++ map (λ p. p.what) parts

abbrev pub IsInner : List (List ℕ × Entry) → Item → List What → List What → Names → Type 0
IsInner packages x before after s = IsScope packages before after (inner_parts (out-Item x)) (inner_items (out-Item x)) s

-- what the items of the unit add to its scope, to the scopes in it and to the list of all that is declared
pub record AreParts (scope : Option (List ℕ)) (packages : List (List ℕ × Entry)) (unit : List Item) (before after : List What) (old new : Names) (olds news : List Names) : Type 0 where
  pub names : new.names ≡ unit_names scope old.names (length before) unit
  pub imports : new.imports ≡ old.imports
  pub scopes : news ≡ olds ++ inner_scopes scope packages (length before) unit
  pub whats : after ≡ before ++ map (λ p. p.what) (unit_parts scope unit)

-- the scope of the unit, and what is added
pub record IsUnit (packages : List (List ℕ × Entry)) (unit : List Item) (before after : List What) (olds news : List Names) (s : Names) : Type 0 where
  pub names : s.names ≡ unit_names unit_name [] (length before) unit
  pub imports : s.imports ≡ all_imports packages unit
  pub scopes : news ≡ olds ++ inner_scopes unit_name packages (length before) unit
  pub whats : after ≡ before ++ map (λ p. p.what) (unit_parts unit_name unit)

-- where an item begins: at or before all names that are used in it
abbrev pub or_type : Place → Option TypeTree → Place
or_type at None = at
or_type at (Some t) = type_place (out-TypeTree t)

abbrev pub start_of : ItemNode → Place
start_of (Item-F.Package at name items) = at
start_of (Item-F.Module at name params ports items) = at
start_of (Item-F.Import at scope name) = at
start_of (Item-F.Typedef at of d) = type_place (out-TypeTree of)
start_of (Item-F.Nettype item) = type_place (out-TypeTree item.base)
start_of (Item-F.Function item) = type_place (out-TypeTree item.result)
start_of (Item-F.Param at local of d) = or_type at of
start_of (Item-F.Net at kind of d) = type_place (out-TypeTree of)
start_of (Item-F.Var at of d) = type_place (out-TypeTree of)
start_of (Item-F.Assign at left right) = at
start_of (Item-F.Instance at module_at of params name ports) = module_at
start_of (Item-F.Procedure item) = item.at

-- the scope of what stands in an item of the unit, beside the unit's own
abbrev pub home_scope : ℕ → ItemNode → Option ℕ
home_scope n (Item-F.Package at name items) = Some n
home_scope n (Item-F.Module at name params ports items) = Some n
home_scope n _ = None

abbrev pub homes_from : ℕ → List Item → List Home
homes_from n [] = []
homes_from n (x ∷ xs) = record { start = start_of (out-Item x); scope = home_scope n (out-Item x) } ∷ homes_from (suc n) xs

-- the scopes of units, what is declared by its number, and which scope a place stands in
pub record UnitScopes : Type 0 where
  pub scopes : List Names
  pub packages : List (List ℕ × Entry)
  pub whats : List What
  pub homes : List Home

abbrev pub scopes_of : List Item → UnitScopes
scopes_of unit =
    record {
      scopes = record { names = unit_names unit_name [] 0 unit; imports = all_imports (packages_of unit) unit } ∷ inner_scopes unit_name (packages_of unit) 0 unit;
      packages = packages_of unit;
      whats = map (λ p. p.what) (unit_parts unit_name unit);
      homes = homes_from 1 unit;
    }

-- ---- what a path means
-- the last home that begins at or before a place, in its file
abbrev pub begins : Place → Place → Bool
begins start at = start.file == at.file && nat_le start.offset at.offset

abbrev pub home_in : List Home → Place → Option ℕ → Option ℕ
home_in [] at found = found
home_in (h ∷ hs) at found = home_in hs at (if begins h.start at then h.scope else found)

-- a scope by its number
abbrev pub scope_by : Option Names → List Names
scope_by None = []
scope_by (Some s) = s ∷ []

abbrev pub scope_number : List Names → Option ℕ → List Names
scope_number scopes None = []
scope_number scopes (Some n) = scope_by (slice_get scopes n)

-- the scopes from the innermost one on: the package or module that the place stands in, and the unit
abbrev pub chain_at : UnitScopes → Place → List Names
chain_at s at = scope_number s.scopes (home_in s.homes at None) ++ scope_number s.scopes (Some 0)

-- what a path means at its place: a name in the scopes there, or a name of a package that stands before it (23.9, 26.3)
pub data MeansAt (s : UnitScopes) (path : Path) : Look → Type 0 where
  by_name : (l : Look) → path.scope ≡ None → Means s.scopes path.at path.name (chain_at s path.at) l → MeansAt s path l
  by_package : (l : Look) (scope : List ℕ) (e : Entry) → path.scope ≡ Some scope → lookup (bytes_eq scope) s.packages ≡ Some e → counts e.from path.at ≡ true
      → MeansOf s.scopes path.at path.name e.number l → MeansAt s path l
  no_package : (scope : List ℕ) → path.scope ≡ Some scope → lookup (bytes_eq scope) s.packages ≡ None → MeansAt s path look.Unknown
  later_package : (scope : List ℕ) (e : Entry) → path.scope ≡ Some scope → lookup (bytes_eq scope) s.packages ≡ Some e → counts e.from path.at ≡ false → MeansAt s path look.Unknown
