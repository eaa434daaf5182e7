use Rattle.std.proofs.Common.{◌≡◌, ◌++◌, length}
use Rattle.nt_small.specs.Pieces.{pieces_of}
use Rattle.nt_small.proofs.pieces.pieces.Given as goal

abbrev pub invariant-loop-rest : goal.invariant-loop-rest
invariant-loop-rest l = l.found.items ++ pieces_of l.rest ≡ pieces_of l.text

abbrev pub decreases-loop-rest : goal.decreases-loop-rest
decreases-loop-rest l = length l.rest
