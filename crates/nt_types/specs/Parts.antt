-- What the items of a scope declare, and from where on it counts (IEEE 1800-2017, 23.9, 26.2).
use Rattle.std.specs.Prelude.{◌≡◌, ℕ, suc, codes, List, [], ◌∷◌, ◌++◌, map, length, Option, Some, None}
use Rattle.std.specs.List.{flat_map}
use Rattle.nt_value.specs.declared.place.Place.{Place}
use Rattle.nt_ast.specs.declared.expr.Expr.{Expr}
use Rattle.nt_ast.specs.declared.path.Declared.{Declared}
use Rattle.nt_items.specs.declared.item.Item.{Item}
use Rattle.nt_items.specs.declared.item.Item.TheOpen.{Item-F}
use Rattle.nt_items.specs.declared.item.Item.TheViews.{out-Item}
use Rattle.nt_items.specs.declared.item.Port.{Port}
use Rattle.nt_scopes.specs.declared.scope.Entry.{Entry}
use Rattle.nt_scopes.specs.Means.{Names, added}
use Rattle.nt_types.specs.declared.parts.What.{What}
use Rattle.nt_types.specs.declared.parts.What.TheVariants as what
use Rattle.nt_types.specs.Ends.{end_of}
use Rattle.nt_unit_names.specs.Items.{ItemNode}

-- a declared name, the place after which it counts, or none where it counts everywhere, and what it is
pub record Part : Type 0 where
  pub name : List ℕ
  pub from : Option Place
  pub what : What

-- the name of the scope of all that stands in no package and no module (3.12.1)
abbrev pub unit_name : Option (List ℕ)
unit_name = Some (codes "$unit")

-- a parameter counts after its value
abbrev pub value_end : Place → Option Expr → Place
value_end at None = at
value_end at (Some x) = end_of x

-- what its constant is called: a constant of a package or of the unit by the name of its scope too
abbrev pub param_part : Option (List ℕ) → Declared → Part
param_part scope d = record { name = d.name; from = Some (value_end d.at d.start); what = what.Constant (record { at = d.at; scope = scope; name = d.name }) }

abbrev pub object_part : Place → List ℕ → Part
object_part at name = record { name = name; from = Some at; what = what.Other }

abbrev pub everywhere : List ℕ → Part
everywhere name = record { name = name; from = None; what = what.Other }

abbrev pub parts_of : Option (List ℕ) → ItemNode → List Part
parts_of scope (Item-F.Package at name items) = object_part at name ∷ []
parts_of scope (Item-F.Module at name params ports items) = everywhere name ∷ []
parts_of scope (Item-F.Import at from name) = []
parts_of scope (Item-F.Typedef at of d) = record { name = d.name; from = Some d.at; what = what.Type of d.dims } ∷ []
parts_of scope (Item-F.Nettype item) = record { name = item.name; from = Some item.at; what = what.Nettype item.at } ∷ []
parts_of scope (Item-F.Function item) = record { name = item.name; from = None; what = what.Function item.at } ∷ []
parts_of scope (Item-F.Param at local of d) = param_part scope d ∷ []
parts_of scope (Item-F.Net at kind of d) = object_part d.at d.name ∷ []
parts_of scope (Item-F.Var at of d) = object_part d.at d.name ∷ []
parts_of scope (Item-F.Assign at left right) = []
parts_of scope (Item-F.Instance at module_at of params name ports) = object_part at name ∷ []
parts_of scope (Item-F.Procedure item) = []

abbrev pub all_parts : Option (List ℕ) → List Item → List Part
all_parts scope items = flat_map (λ x. parts_of scope (out-Item x)) items

abbrev pub port_part : Port → Part
port_part p = object_part (p.what).at (p.what).name

-- the parts of a package, and of a module: its parameters and ports before its items
abbrev pub inner_parts : ItemNode → List Part
inner_parts (Item-F.Package at name items) = all_parts (Some name) items
inner_parts (Item-F.Module at name params ports items) = (map (λ p. param_part None p.1) params ++ map port_part ports) ++ all_parts None items
inner_parts _ = []

-- each name with its first declaration, and the numbers of declarations from n on
abbrev pub names_from : List (List ℕ × Entry) → ℕ → List Part → List (List ℕ × Entry)
names_from names n [] = names
names_from names n (p ∷ ps) = names_from (added names p.name (record { from = p.from; number = n })) (suc n) ps

-- what is added to a scope and to the list of all that is declared
pub record Adds (old new : Names) (before after : List What) (ps : List Part) : Type 0 where
  pub names : new.names ≡ names_from old.names (length before) ps
  pub imports : new.imports ≡ old.imports
  pub whats : after ≡ before ++ map (λ p. p.what) ps
