-- Names that are declared twice in one scope: in a function, a structure or a module (IEEE 1800-2017, 3.13, 7.2, 13.4, 23.9).
use Rattle.std.specs.Prelude.{◌≡◌, ℕ, Bool, true, if◌then◌else◌, List, [], ◌∷◌, ◌++◌, map, take, slice_get, Option, Some, None}
use Rattle.std.specs.List.{flat_map, list_any}
use Rattle.std.specs.Str.{bytes_eq}
use Rattle.nt_value.specs.declared.place.Place.{Place}
use Rattle.nt_diag.specs.declared.refusal.Refusal.{Refusal}
use Rattle.nt_diag.specs.declared.rule.Rule.TheVariants as rule
use Rattle.nt_diag.specs.Order.{AmongAll}
use Rattle.nt_ast.specs.declared.path.Declared.{Declared}
use Rattle.nt_ast.specs.declared.types.TypeTree.{TypeTree}
use Rattle.nt_ast.specs.declared.types.TypeTree.TheOpen.{TypeTree-F}
use Rattle.nt_ast.specs.declared.types.TypeTree.TheViews.{out-TypeTree}
use Rattle.nt_items.specs.declared.item.FunctionItem.{FunctionItem}
use Rattle.nt_items.specs.declared.item.Item.{Item}
use Rattle.nt_items.specs.declared.item.Item.TheViews.{out-Item}
use Rattle.nt_items.specs.declared.item.Port.{Port}
use Rattle.nt_unit_names.specs.Faults.{refusal}
use Rattle.nt_unit_names.specs.Items.{declared_name, item_place}
use Rattle.nt_own_names.specs.declared.named.Named.{Named}

-- one of several declarations has this name
abbrev pub is_named : List ℕ → List Named → Bool
is_named name all = list_any (λ (d : Named). bytes_eq name d.name) all

-- a declaration whose name stands before it
abbrev pub IsAgain : List Named → Named → Refusal → Type 0
IsAgain before d r = (is_named d.name before ≡ true) × (r ≡ refusal rule.T5 d.at)

-- the faults of the declarations of one scope, in their order: T5 at each name that stands there before
abbrev pub Twice : List Named → Refusal → Type 0
Twice names r = AmongAll (λ (k : ℕ) (d : Named) (r : Refusal). IsAgain (take k names) d r) names r

abbrev pub fault_if : Bool → Place → Option Refusal
fault_if is_again at = if is_again then Some (refusal rule.T5 at) else None

abbrev pub named : Declared → Named
named d = record { name = d.name; at = d.at }

-- a function declares its own name, its arguments and its locals in one scope (13.4). The variable of a loop has a scope of its own (12.7.1)
abbrev pub function_names : FunctionItem → List Named
function_names f = record { name = f.name; at = f.at } ∷ map (λ (a : TypeTree × Declared × Bool). named a.1) f.args ++ map (λ (l : TypeTree × Declared). named l.1) f.locals

abbrev pub member_names : List (TypeTree × Declared) → List Named
member_names members = map (λ (m : TypeTree × Declared). named m.1) members

-- a structure, and those inside it (7.2)
pub data TypeTwice : TypeTree-F TypeTree → Refusal → Type 0 where
  members : {r : Refusal} (at : Place) (ms : List (TypeTree × Declared)) → Twice (member_names ms) r → TypeTwice (TypeTree-F.Struct at ms) r
  inside : {r : Refusal} (at : Place) (ms : List (TypeTree × Declared)) (k : ℕ) (m : TypeTree × Declared) → slice_get ms k ≡ Some m → TypeTwice (out-TypeTree m.0) r → TypeTwice (TypeTree-F.Struct at ms) r

-- a module: parameters and ports before its items (23.2)
abbrev pub named_if : Option (List ℕ) → Place → List Named
named_if None at = []
named_if (Some name) at = record { name = name; at = at } ∷ []

abbrev pub item_named : Item → List Named
item_named x = named_if (declared_name (out-Item x)) (item_place (out-Item x))

abbrev pub module_names : List (Option TypeTree × Declared) → List Port → List Item → List Named
module_names params ports items =
    (map (λ (p : Option TypeTree × Declared). named p.1) params ++ map (λ (p : Port). named p.what) ports) ++ flat_map item_named items
