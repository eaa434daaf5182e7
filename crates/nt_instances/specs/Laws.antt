-- Law: the depth of the walk leaves no instance out.
use Rattle.std.specs.Prelude.{ℕ, ◌≡◌, ◌<◌, ◌+◌, List, length}
use Rattle.nt_items.specs.declared.item.Item.{Item}
use Rattle.nt_instances.specs.Rows.{instances, all_rows, top_row}

-- more depth gives no more instances, since none stands in one of its own module
abbrev pub DeepEnough : Type 0
DeepEnough = (ms : List Item) (top more : ℕ) → top < length ms → instances (length ms + more) ms 0 (top_row top) ≡ all_rows ms top
