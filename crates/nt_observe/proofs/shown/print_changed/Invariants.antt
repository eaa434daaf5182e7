use Rattle.std.proofs.Common.{◌≡◌, ◌++◌, take, filter}
use Rattle.std.specs.List.{flat_map}
use Rattle.nt_semantics.specs.Texts.{object_line, is_changed}
use Rattle.nt_runs.specs.Views.{observed}
use Rattle.nt_observe.proofs.shown.print_changed.Given as goal

abbrev pub invariant-loop-object : goal.invariant-loop-object
invariant-loop-object l = l.out ≡ l.fn.out ++ flat_map (object_line l.design (observed l.seen)) (filter (is_changed (observed l.before) (observed l.seen)) (take l.object-index l.objects))
