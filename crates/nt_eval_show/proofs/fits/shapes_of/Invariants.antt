use Rattle.std.proofs.Common.{◌≡◌, map, take}
use Rattle.nt_value.specs.Values.{shape_of}
use Rattle.nt_eval_show.proofs.fits.shapes_of.Given as goal

abbrev pub invariant-loop-value : goal.invariant-loop-value
invariant-loop-value l = l.shapes ≡ map shape_of (take l.value-index l.values)
