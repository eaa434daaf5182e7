use Rattle.nt_typing.proofs.Pieces.{leaf_is}
use Rattle.nt_forms.proofs.Kinding.{one_leaf}
use Rattle.nt_forms.proofs.finish.leaf_of.Goals as goal

pub new-requires : goal.new-requires
new-requires c = leaf_is c.args.kind.now c.in-One.leaf c.requires.sound (one_leaf c.args.kind.now c.in-One.leaf c.in-One.left c.in-One.right c.in-One.is)
