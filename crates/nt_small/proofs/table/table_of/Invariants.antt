use Rattle.std.proofs.Common.{map}
use Rattle.nt_small.specs.Said.{item_of}
use Rattle.nt_small.proofs.Gathering.{Gathered}
use Rattle.nt_small.proofs.table.table_of.Given as goal

abbrev pub invariant-loop-item : goal.invariant-loop-item
invariant-loop-item l = Gathered l.nettype l.table (map item_of l.items) l.item-index
