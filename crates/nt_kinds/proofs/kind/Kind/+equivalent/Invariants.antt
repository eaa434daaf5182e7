use Rattle.nt_kinds.specs.Kinds.{levels}
use Rattle.nt_kinds.proofs.kind.Kind.+equivalent.Given as goal

abbrev pub decreases-equivalent : goal.decreases-equivalent
decreases-equivalent l = levels l.self.now
