use Rattle.std.proofs.Common.{◌≡◌, ◌++◌, drop, None}
use Rattle.nt_read_module.specs.Carried.{params_from}
use Rattle.nt_read_module.proofs.carried.params_from.Given as goal

abbrev pub invariant-loop-text : goal.invariant-loop-text
invariant-loop-text l = l.all ++ params_from l.before (drop l.text-index l.texts) ≡ params_from None l.texts
