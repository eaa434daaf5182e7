use Rattle.std.proofs.Common.{◌≡◌, ◌++◌, take}
use Rattle.std.specs.List.{flat_map}
use Rattle.nt_semantics.specs.Texts.{object_line}
use Rattle.nt_runs.specs.Views.{observed}
use Rattle.nt_observe.proofs.shown.print_all.Given as goal

abbrev pub invariant-loop-object : goal.invariant-loop-object
invariant-loop-object l = l.out ≡ l.fn.out ++ flat_map (object_line l.design (observed l.seen)) (take l.object-index l.objects)
