use Rattle.std.proofs.Common.{◌≡◌, ◌++◌, drop, None}
use Rattle.nt_read_module.specs.Carried.{ports_from}
use Rattle.nt_read_module.proofs.carried.ports_from.Given as goal

abbrev pub invariant-loop-text : goal.invariant-loop-text
invariant-loop-text l = l.all ++ ports_from l.before (drop l.text-index l.texts) ≡ ports_from None l.texts
