-- What ports and parameters in the head of a module take over from the one before (IEEE 1800-2017, 6.20.1, 23.2.2.3; the rules where
-- direction, kind or type isn't written are told in docs/UNITS.md).
use Rattle.std.specs.Prelude.{Bool, true, false, if◌then◌else◌, List, [], ◌∷◌, Option, Some, None}
use Rattle.nt_ast.specs.declared.path.Declared.{Declared}
use Rattle.nt_ast.specs.declared.types.TypeTree.{TypeTree}
use Rattle.nt_items.specs.declared.item.Way.{Way}
use Rattle.nt_items.specs.declared.item.Way.TheVariants as way
use Rattle.nt_items.specs.declared.item.PortKind.{PortKind}
use Rattle.nt_items.specs.declared.item.PortKind.TheVariants as port
use Rattle.nt_items.specs.declared.item.Port.{Port}
use Rattle.nt_read_item.specs.Tables.{type_at}
use Rattle.nt_read_module.specs.declared.carried.PortText.{PortText}
use Rattle.nt_read_module.specs.declared.carried.ParamText.{ParamText}
use Rattle.nt_read_module.specs.declared.carried.Before.{Before}

abbrev pub is_none : {A : Type 0} → Option A → Bool
is_none None = true
is_none (Some x) = false

abbrev pub is_empty : {A : Type 0} → List A → Bool
is_empty [] = true
is_empty (x ∷ xs) = false

-- nothing is written but the name
abbrev pub is_bare_port : PortText → Bool
is_bare_port p = if is_none p.way then (if is_none p.kind then (if is_none p.of then is_empty p.what.dims else false) else false) else false

-- the direction: the one that is written, else that of the port before, else `inout`
abbrev pub way_after : Option Before → Option Way → Way
way_after b (Some v) = v
way_after (Some b) None = b.way
way_after None None = way.Inout

-- what the port is: what is written; an output without a written type is a wire; else its type decides
abbrev pub kind_after : Option PortKind → Way → Option TypeTree → PortKind
kind_after (Some kind) v of = kind
kind_after None way.Output None = port.Wire
kind_after None v of = port.ByType

-- the port that is written so, by itself but for its direction
abbrev pub own_port : Option Before → PortText → Port
own_port b p = record {
  at = p.what.at;
  way = way_after b p.way;
  kind = kind_after p.kind (way_after b p.way) p.of;
  of = type_at p.of p.what.at;
  what = p.what;
}

abbrev pub port_by : Bool → Option Before → PortText → Port
port_by true (Some b) p = record { at = p.what.at; way = b.way; kind = b.kind; of = b.of; what = p.what }
port_by _ b p = own_port b p

-- the port that is written so, after such a one: where nothing is written but its name, it takes direction, kind and type of that one
abbrev pub port_after : Option Before → PortText → Port
port_after b p = port_by (is_bare_port p) b p

-- what the next port takes over of a port
abbrev pub of_port : Port → Before
of_port q = record { way = q.way; kind = q.kind; of = q.of }

unfoldable pub ports_from : Option Before → List PortText → List Port
ports_from b [] = []
ports_from b (p ∷ ps) = port_after b p ∷ ports_from (Some (of_port (port_after b p))) ps

-- the type of a parameter: what is written, or, without the word `parameter`, that of the one before
abbrev pub param_type : Option TypeTree → ParamText → Option TypeTree
param_type b p = if p.word then p.of else (if is_none p.of then b else p.of)

unfoldable pub params_from : Option TypeTree → List ParamText → List (Option TypeTree × Declared)
params_from b [] = []
params_from b (p ∷ ps) = (param_type b p, p.what) ∷ params_from (param_type b p) ps
