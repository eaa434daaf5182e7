use Rattle.std.proofs.Common.{◌≡◌, drop}
use Rattle.std.specs.List.{list_any}
use Rattle.nt_sensitivity.specs.Readers.{picks_reader}
use Rattle.nt_sensitivity.proofs.reads.path_reads.Given as goal

abbrev pub invariant-loop-pick : goal.invariant-loop-pick
invariant-loop-pick l = list_any (picks_reader l.object) (drop l.pick-index l.path) ≡ list_any (picks_reader l.object) l.path
