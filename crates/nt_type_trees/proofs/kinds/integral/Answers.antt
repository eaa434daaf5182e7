use Rattle.nt_type_trees.proofs.Walking.{kind_plain, kind_ranged}
use Rattle.nt_type_trees.proofs.kinds.integral.Goals as goal

pub returns-in-None : goal.returns-in-None
returns-in-None g c = λ ts. rw (c.plain.ensures, c.in-None.is) (kind_plain c.args.at c.args.word c.args.signed)

pub returns-in_ok-right-in-Some : goal.returns-in_ok-right-in-Some
returns-in_ok-right-in-Some g c =
    λ ts. rw (c.ranged.ensures, c.both.ensures, c.in-Some.is) (kind_ranged c.args.at c.args.word c.args.signed c.in_ok-left-in-Some.ensures c.in_ok-right-in-Some.ensures)
