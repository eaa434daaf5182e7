use Rattle.std.proofs.Common.{map, length}
use Rattle.nt_small.specs.Said.{item_of}
use Rattle.nt_small.proofs.Listing.{SoFar}
use Rattle.nt_small.proofs.items.items.Given as goal

abbrev pub invariant-loop-rest : goal.invariant-loop-rest
invariant-loop-rest l = SoFar l.nettype l.pieces (map item_of l.found.items) l.rest

abbrev pub decreases-loop-rest : goal.decreases-loop-rest
decreases-loop-rest l = length l.rest
