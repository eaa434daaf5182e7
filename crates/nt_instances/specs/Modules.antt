-- The modules of the unit, and what their heads declare (IEEE 1800-2017, 3.3, 6.20.1, 23.2).
use Rattle.std.specs.Prelude.{ℕ, Bool, true, false, if◌then◌else◌, List, [], ◌∷◌, map, Option, Some, None}
use Rattle.std.specs.List.{filter, flat_map}
use Rattle.nt_ast.specs.declared.path.Declared.{Declared}
use Rattle.nt_ast.specs.declared.types.TypeTree.{TypeTree}
use Rattle.nt_items.specs.declared.item.Item.{Item}
use Rattle.nt_items.specs.declared.item.Item.TheOpen.{Item-F}
use Rattle.nt_items.specs.declared.item.Item.TheViews.{out-Item}
use Rattle.nt_items.specs.declared.item.Port.{Port}
use Rattle.nt_unit_names.specs.Items.{ItemNode, declares}
use Rattle.nt_instances.specs.Numbers.{number_of}

abbrev pub is_module : ItemNode → Bool
is_module (Item-F.Module at name params ports items) = true
is_module _ = false

-- the modules of the unit, in the order of the source: a module's number is its place here
abbrev pub modules_of : List Item → List Item
modules_of unit = filter (λ x. is_module (out-Item x)) unit

-- the number of the module of a name: that of the first one
abbrev pub find_module : List Item → List ℕ → Option ℕ
find_module ms name = number_of (declares name) ms

abbrev pub items_in : ItemNode → List Item
items_in (Item-F.Module at name params ports items) = items
items_in _ = []

abbrev pub items_of : Option Item → List Item
items_of None = []
items_of (Some m) = items_in (out-Item m)

abbrev pub port_names_in : ItemNode → List (List ℕ)
port_names_in (Item-F.Module at name params ports items) = map (λ (p : Port). (p.what).name) ports
port_names_in _ = []

-- the names of a module's ports, in order (23.2.2)
abbrev pub port_names : Option Item → List (List ℕ)
port_names None = []
port_names (Some m) = port_names_in (out-Item m)

abbrev pub param_name : ItemNode → List (List ℕ)
param_name (Item-F.Param at local of d) = if local then [] else d.name ∷ []
param_name _ = []

-- parameters of a module that an instance may set: those of its head, or, where the head has none, those of its items (6.20.1)
abbrev pub settable : List (Option TypeTree × Declared) → List Item → List (List ℕ)
settable [] items = flat_map (λ x. param_name (out-Item x)) items
settable (p ∷ ps) items = map (λ (q : Option TypeTree × Declared). (q.1).name) (p ∷ ps)

abbrev pub param_names_in : ItemNode → List (List ℕ)
param_names_in (Item-F.Module at name params ports items) = settable params items
param_names_in _ = []

abbrev pub param_names : Option Item → List (List ℕ)
param_names None = []
param_names (Some m) = param_names_in (out-Item m)
