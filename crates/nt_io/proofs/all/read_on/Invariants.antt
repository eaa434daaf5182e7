use Rattle.std.proofs.Common.{◌+◌, ◌-◌, ◌≤◌, length, IfSome}
use Rattle.nt_io.specs.Causes.{NoneFalls}
use Rattle.nt_io.specs.Sources.{SameFiles}
use Rattle.nt_io.proofs.Fronts.{IsFront}
use Rattle.nt_io.proofs.all.read_on.Given as goal

abbrev pub invariant-loop-bytes : goal.invariant-loop-bytes
invariant-loop-bytes g l = record {
  short : length l.bytes.items ≤ l.most + 1;
  front : IfSome (g.I.Inputs.bytes l.fn.inputs l.path) (λ file. IsFront l.bytes.items file);
  no_fall : NoneFalls (g.I.Inputs.faults l.fn.inputs) (g.I.Inputs.faults l.inputs);
  same : SameFiles (g.I.Inputs.bytes l.fn.inputs) (g.I.Inputs.bytes l.inputs);
}

abbrev pub decreases-loop-bytes : goal.decreases-loop-bytes
decreases-loop-bytes g l = l.most + 1 - length l.bytes.items
