use Rattle.nt_semantics.proofs.Sames.{same_is}
use Rattle.nt_observe.proofs.shown.is_same.Goals as goal

pub returns : goal.returns
returns c = same_is c.args.a.now c.args.b.now c.same.result c.same.ensures
