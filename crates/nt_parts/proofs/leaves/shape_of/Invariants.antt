use Rattle.std.proofs.Common.{◌≡◌, take}
use Rattle.std.specs.Prelude.{All}
use Rattle.nt_value.specs.Digits.{IsLeaf}
use Rattle.nt_value.specs.Values.{shape_of}
use Rattle.nt_parts.proofs.leaves.shape_of.Given as goal

abbrev pub invariant-loop-bits : goal.invariant-loop-bits
invariant-loop-bits l =
    record {
      items : l.leaves.items ≡ shape_of (take l.bits-index l.bits-items);
      valid : All IsLeaf l.leaves.items;
    }
