use Rattle.std.specs.Prelude.{option_map}
use Rattle.nt_things.proofs.Naming.{Sought}
use Rattle.nt_things.proofs.names.last_of.Given as goal

abbrev pub invariant-loop-own : goal.invariant-loop-own
invariant-loop-own l = Sought l.names l.name l.own-index (option_map (λ e. e.now) l.found)
