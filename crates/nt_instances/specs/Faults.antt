-- The faults of instances: their modules, their connections, their number (IEEE 1800-2017, 23.3.2, 23.10.2).
use Rattle.std.specs.Prelude.{ℕ, ◌≡◌, suc, ◌==◌, nat_lt, Bool, true, false, if◌then◌else◌, List, [], ◌∷◌, length, slice_get, take, Option, Some, None}
use Rattle.std.specs.List.{list_any}
use Rattle.std.specs.Str.{bytes_eq}
use Rattle.nt_value.specs.declared.place.Place.{Place}
use Rattle.nt_diag.specs.declared.refusal.Refusal.{Refusal}
use Rattle.nt_diag.specs.declared.rule.Rule.{Rule}
use Rattle.nt_diag.specs.declared.rule.Rule.TheVariants as rule
use Rattle.nt_diag.specs.Order.{Among, AmongAll}
use Rattle.nt_items.specs.declared.item.Conn.{Conn}
use Rattle.nt_items.specs.declared.item.Item.{Item}
use Rattle.nt_items.specs.declared.item.Item.TheOpen.{Item-F}
use Rattle.nt_items.specs.declared.item.Item.TheViews.{out-Item}
use Rattle.nt_unit_names.specs.Items.{ItemNode}
use Rattle.nt_unit_names.specs.Faults.{refusal}
use Rattle.nt_instances.specs.declared.rows.Row.{Row}
use Rattle.nt_instances.specs.Numbers.{number_of}
use Rattle.nt_instances.specs.Modules.{find_module, items_of, port_names, param_names}
use Rattle.nt_instances.specs.Rows.{is_open, most_instances}

-- ---- connections
abbrev pub by_order : ℕ → ℕ → Option ℕ
by_order count k = if nat_lt k count then Some k else None

-- which of these names connection number k connects: the one of its own name, or the one of its number
abbrev pub target_of : List (List ℕ) → ℕ → Option (List ℕ) → Option ℕ
target_of names k None = by_order (length names) k
target_of names k (Some name) = number_of (bytes_eq name) names

abbrev pub targets_from : List (List ℕ) → ℕ → List Conn → List (Option ℕ)
targets_from names k [] = []
targets_from names k (c ∷ cs) = target_of names k c.name ∷ targets_from names (suc k) cs

-- what each of these connections connects
abbrev pub targets : List (List ℕ) → List Conn → List (Option ℕ)
targets names conns = targets_from names 0 conns

abbrev pub is_target : ℕ → Option ℕ → Bool
is_target t None = false
is_target t (Some u) = t == u

-- connection number k connects what there is not, or what an earlier one connects
pub data ConnFault (r : Rule) (ts : List (Option ℕ)) (k : ℕ) (c : Conn) : Refusal → Type 0 where
  nothing : slice_get ts k ≡ Some None → ConnFault r ts k c (refusal r c.at)
  again : (t : ℕ) → slice_get ts k ≡ Some (Some t) → list_any (is_target t) (take k ts) ≡ true → ConnFault r ts k c (refusal r c.at)

abbrev pub ConnsFault : Rule → List (List ℕ) → List Conn → Refusal → Type 0
ConnsFault r names conns f = AmongAll (ConnFault r (targets names conns)) conns f

-- ---- instances
-- there is no such module, or it is that of an instance around
pub data ModuleFault (row : Row) (at : Place) : Option ℕ → Refusal → Type 0 where
  no_module : ModuleFault row at None (refusal rule.P1 at)
  inside_itself : (m : ℕ) → is_open row m ≡ true → ModuleFault row at (Some m) (refusal rule.P6 at)

-- connections of parameters and of ports, where there is the module
pub data HeadFault (ms : List Item) (params ports : List Conn) : Option ℕ → Refusal → Type 0 where
  in_params : {f : Refusal} (m : ℕ) → ConnsFault rule.P7 (param_names (slice_get ms m)) params f → HeadFault ms params ports (Some m) f
  in_ports : {f : Refusal} (m : ℕ) → ConnsFault rule.P2 (port_names (slice_get ms m)) ports f → HeadFault ms params ports (Some m) f

pub data InstanceFault (ms : List Item) (row : Row) (k : ℕ) : ItemNode → Refusal → Type 0 where
  in_module : {f : Refusal} (at module_at : Place) (of name : List ℕ) (params ports : List Conn) → ModuleFault row module_at (find_module ms of) f
      → InstanceFault ms row k (Item-F.Instance at module_at of params name ports) f
  in_head : {f : Refusal} (at module_at : Place) (of name : List ℕ) (params ports : List Conn) → HeadFault ms params ports (find_module ms of) f
      → InstanceFault ms row k (Item-F.Instance at module_at of params name ports) f

-- in the items of one instance
abbrev pub RowFault : List Item → ℕ → Row → Refusal → Type 0
RowFault ms k row f = AmongAll (λ (k : ℕ) (x : Item) (f : Refusal). InstanceFault ms row k (out-Item x) f) (items_of (slice_get ms row.definition)) f

-- the first instance past the limit
pub data PastFault (rows : List Row) : Refusal → Type 0 where
  past : (row : Row) → slice_get rows most_instances ≡ Some row → PastFault rows (refusal rule.P8 row.at)

-- the faults of the instances up to the limit, and of the first one past it
pub data RowsFault (ms : List Item) (rows : List Row) (f : Refusal) : Type 0 where
  in_row : Among (RowFault ms) most_instances rows f → RowsFault ms rows f
  too_many : PastFault rows f → RowsFault ms rows f
