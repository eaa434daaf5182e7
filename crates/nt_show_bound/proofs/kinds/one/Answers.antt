use Rattle.nt_show_bound.proofs.Fitted.{one_usable}
use Rattle.nt_show_bound.proofs.kinds.one.Goals as goal

pub returns : goal.returns
returns c = one_usable c.args.leaf c.args.left c.args.right c.requires
