use Rattle.std.proofs.Common.{refl, arith}
use Rattle.nt_kinds.specs.Kinds.{member_leaves}
use Rattle.nt_kinds.proofs.Alike.{same_lists}
use Rattle.nt_kinds.proofs.leaves.same_leaves.Goals as goal

pub returns : goal.returns
returns c = (
  λ t. same_lists (member_leaves c.args.a.now) (member_leaves c.args.b.now) c.members_size-count.result c.members_size.result c.members_size-count.ensures c.members_size.ensures c.requires.within c.requires.other_within
      c.if-count-members_size.false
      (λ i lt. let test = c.loop-k-test.false in c.loop-k.invariant i (omega (arith, lt, test))),
  λ e. refl,
)
