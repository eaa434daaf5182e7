use Rattle.nt_kinds.proofs.Alike.{one_alike}
use Rattle.nt_kinds.proofs.kind.Kind.is_leaf.Goals as goal

pub returns-in-One : goal.returns-in-One
returns-in-One c = one_alike c.is_same.result c.args.leaf c.in-One.own c.args.self.now c.in-One.left c.in-One.right c.in-One.is c.is_same.ensures
