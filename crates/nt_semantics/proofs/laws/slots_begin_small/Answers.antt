use Rattle.nt_semantics.proofs.Beginning.{begins_small}
use Rattle.nt_semantics.proofs.laws.slots_begin_small.Goals as goal

pub returns : goal.returns
returns c = begins_small
