-- The design of a source.
use Rattle.std.specs.Prelude.{ℕ, ◌+◌, ◌-◌, ◌*◌, true, false, List, [], ◌∷◌, ◌++◌, codes, fold, map, position, Option, Some, None, unwrap_or, option_to_list}
use Rattle.std.specs.List.{flat_map}
use Rattle.std.specs.Str.{bytes_eq}
use Rattle.nt_value.specs.Digits.{LeafValue}
use Rattle.nt_value.specs.Values.{binary}
use Rattle.nt_value.specs.declared.leaf.Leaf.{Leaf}
use Rattle.nt_value.specs.declared.place.Place.{Place}
use Rattle.nt_value.specs.declared.unit.Base.TheVariants.{Ns}
use Rattle.nt_design.specs.declared.process.Assign.{Assign}
use Rattle.nt_design.specs.declared.design.Design.{Design}
use Rattle.nt_design.specs.declared.design.Scoped.{Scoped}
use Rattle.nt_design.specs.declared.object.Net.{Net}
use Rattle.nt_design.specs.declared.object.NetKind.TheVariants.{Unresolved}
use Rattle.nt_design.specs.declared.object.Object.TheVariants as object
use Rattle.nt_design.specs.declared.target.Target.TheVariants.{Slot}
use Rattle.nt_design.specs.declared.tree.Tree.TheVariants.{Const}
use Rattle.nt_small.specs.Grammar.{Source, Item, Declare, Drive, declared_nets, driven_nets}

-- the leaf of int
abbrev pub int_leaf : Leaf
int_leaf = record { width = 32; signed = true; four = false }

-- the start of the file: the small language keeps no places
abbrev pub file_start : Place
file_start = record { file = 0; offset = 0; line = 1; column = 1 }

-- the number of decimal digits
abbrev pub number_of_digits : List ℕ → ℕ
number_of_digits digits = fold (λ n b. 10 * n + (b - 48)) 0 digits

-- the int of a number
abbrev pub int_value : ℕ → List LeafValue
int_value n = record { leaf = int_leaf; digits = binary 32 n } ∷ []

-- where the name stands first among names, counted from 0
abbrev pub position_of : List ℕ → List (List ℕ) → Option ℕ
position_of name names = position (bytes_eq name) names

-- a declared net: its path, and its one slot, if one of the driven nets is this one
abbrev pub net_of_name : List ℕ → List (List ℕ) → List ℕ → Net
net_of_name top driven name = record {
  name = top ++ (codes "." ++ name);
  shape = int_leaf ∷ [];
  kind = Unresolved;
  slots = option_to_list (position_of name driven);
  at = file_start;
}

-- the assignment of a number to one of the declared nets
abbrev pub assign_of_drive : List (List ℕ) → List ℕ → List ℕ → Assign
assign_of_drive declared net digits = record {
  target = Slot (unwrap_or (position_of net declared) 0) 0 0 0;
  right = Const (int_value (number_of_digits digits));
  reads = [];
  at = file_start;
}

-- the assignment of an item, if it is one
abbrev pub assigns_of_item : List (List ℕ) → Item → List Assign
assigns_of_item declared (Declare net) = []
assigns_of_item declared (Drive net digits) = assign_of_drive declared net digits ∷ []

-- the names in the scope of a module: each net with its number, from one on
abbrev pub net_names : ℕ → List (List ℕ) → List Scoped
net_names n [] = []
net_names n (name ∷ names) = record { depth = 1; name = name; object = Some (object.Net n) } ∷ net_names (n + 1) names

-- the module, and the names in it
abbrev pub scopes_of : List ℕ → List (List ℕ) → List Scoped
scopes_of top names = record { depth = 0; name = top; object = None } ∷ net_names 0 names

-- the nets in the order of their declarations, and the assignments in order
abbrev pub design_of : Source → Design
design_of s = record {
  nets = map (net_of_name s.top (driven_nets s.items)) (declared_nets s.items);
  assigns = flat_map (assigns_of_item (declared_nets s.items)) s.items;
  vars = [];
  procs = [];
  functions = [];
  scopes = scopes_of s.top (declared_nets s.items);
  unit = record { ten = 0; base = Ns };
}
