use Rattle.std.proofs.Common.{◌≡◌, ◌≤◌, ◌++◌, length, take, drop, ◌-◌}
use Rattle.nt_instances.specs.Rows.{instances, item_rows}
use Rattle.nt_instances.proofs.walk.+walk.Given as goal

abbrev pub decreases-walk : goal.decreases-walk
decreases-walk l = l.depth

-- the instances so far and those of the items that are left are all
abbrev pub invariant-loop-index : goal.invariant-loop-index
invariant-loop-index l = record {
  room : length l.rows ≤ l.limit;
  left : take l.limit (l.rows ++ item_rows (instances (l.depth - 1) l.modules) l.modules l.here l.row (length l.rows) l.index (drop l.index l.items)) ≡ take l.limit (l.fn.rows ++ instances l.depth l.modules (length l.fn.rows) l.row);
}
