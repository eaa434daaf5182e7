use Rattle.std.proofs.Common.{◌≡◌, length}
use Rattle.nt_read_stmt.specs.Reader as spec
use Rattle.nt_read_stmt.proofs.build.linked.Given as goal

abbrev pub invariant-loop-link : goal.invariant-loop-link
invariant-loop-link l = spec.linked l.left l.tree ≡ spec.linked l.fn.links l.fn.last

abbrev pub decreases-loop-link : goal.decreases-loop-link
decreases-loop-link l = length l.left
