-- The instances below a top module, in the order of elaboration (IEEE 1800-2017, 23.3, 23.10): an instance, and then those of its items in
-- the order of the source, each with all that is inside it.
use Rattle.std.specs.Prelude.{ℕ, ◌+◌, zero, suc, ◌==◌, Bool, ◌||◌, if◌then◌else◌, List, [], ◌∷◌, ◌++◌, length, slice_get, take, Option, Some, None}
use Rattle.std.specs.List.{list_any}
use Rattle.nt_value.specs.declared.place.Place.{Place}
use Rattle.nt_items.specs.declared.item.Item.{Item}
use Rattle.nt_items.specs.declared.item.Item.TheOpen.{Item-F}
use Rattle.nt_items.specs.declared.item.Item.TheViews.{out-Item}
use Rattle.nt_unit_names.specs.Items.{ItemNode}
use Rattle.nt_instances.specs.declared.rows.Row.{Row}
use Rattle.nt_instances.specs.Modules.{find_module, items_of}

-- a module is that of an instance, or that of one around it
abbrev pub is_open : Row → ℕ → Bool
is_open row m = (m == row.definition) || list_any (λ o. m == o) row.around

-- what item number `item` of instance number `here` makes of a module
abbrev pub inside : Place → ℕ → Row → ℕ → ℕ → Row
inside at here row item m = record {
  at = at;
  definition = m;
  parent = Some (record { row = here; item = item });
  around = row.around ++ row.definition ∷ [];
}

abbrev pub entered : ℕ → Row → ℕ → Place → Option ℕ → Option Row
entered here row item at None = None
entered here row item at (Some m) = if is_open row m then None else Some (inside at here row item m)

-- the instance that an item of instance number `here` makes: none where there is no such module, or where it is open around it
abbrev pub child : List Item → ℕ → Row → ℕ → ItemNode → Option Row
child ms here row index (Item-F.Instance at module_at of params name ports) = entered here row index at (find_module ms of)
child ms here row index _ = None

abbrev pub from_child : (ℕ → Row → List Row) → ℕ → Option Row → List Row
from_child below n None = []
from_child below n (Some r) = below n r

-- the instances of items, from item number `index` on, of instance `here`, each with all that is inside it; the first gets number n
abbrev pub item_rows : (ℕ → Row → List Row) → List Item → ℕ → Row → ℕ → ℕ → List Item → List Row
item_rows below ms here row n index [] = []
item_rows below ms here row n index (x ∷ xs) =
    from_child below n (child ms here row index (out-Item x))
    ++ item_rows below ms here row (n + length (from_child below n (child ms here row index (out-Item x)))) (index + 1) xs

-- an instance, which gets number n, and those of its items, to a depth
unfoldable pub instances : ℕ → List Item → ℕ → Row → List Row
instances zero ms n row = []
instances (suc depth) ms n row = row ∷ item_rows (instances depth ms) ms n row (n + 1) 0 (items_of (slice_get ms row.definition))

abbrev pub file_start : Place
file_start = record { file = 0; offset = 0; line = 1; column = 1 }

-- the top module, which comes from no item
abbrev pub top_row : ℕ → Row
top_row top = record { at = file_start; definition = top; parent = None; around = [] }

-- all instances: no chain of them is longer than the list of modules, see the law
abbrev pub all_rows : List Item → ℕ → List Row
all_rows ms top = instances (length ms) ms 0 (top_row top)

-- a design has so many instances at most, its top among them
abbrev pub most_instances : ℕ
most_instances = 4096

-- the instances, and of those past the limit the first alone: what comes after it rests on it
abbrev pub rows_of : List Item → ℕ → List Row
rows_of ms top = take (most_instances + 1) (all_rows ms top)
