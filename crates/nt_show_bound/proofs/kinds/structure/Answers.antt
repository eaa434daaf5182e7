use Rattle.nt_show_bound.proofs.Fitted.{struct_fits}
use Rattle.nt_show_bound.proofs.kinds.structure.Goals as goal

pub small-requires : goal.small-requires
small-requires c = struct_fits c.args.declared c.args.members c.requires
