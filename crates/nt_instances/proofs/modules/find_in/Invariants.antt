use Rattle.std.proofs.Common.{◌≡◌, map, drop}
use Rattle.nt_unit_names.specs.Items.{declares}
use Rattle.nt_instances.specs.Numbers.{number_from, number_of}
use Rattle.nt_instances.proofs.modules.find_in.Given as goal

abbrev pub invariant-loop-number : goal.invariant-loop-number
invariant-loop-number l = number_of (declares l.name) (map (λ x. x.now) l.modules) ≡ number_from (declares l.name) l.number (map (λ x. x.now) (drop l.number l.modules))
