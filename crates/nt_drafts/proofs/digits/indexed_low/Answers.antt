use Rattle.nt_drafts.proofs.Closed.{same_answer}
use Rattle.nt_drafts.proofs.Low.{top_up, top_down, top_is}
use Rattle.nt_drafts.proofs.digits.indexed_low.Goals as goal

pub returns-then-up-2 : goal.returns-then-up-2
returns-then-up-2 c =
    same_answer c.from_top.result _ _ (top_up c.args.left c.args.right c.args.width c.args.up c.args.size c.args.index _ c.if-right-left.false c.if-up-2.true (top_is c.from-then-up-2.result c.args.right c.args.width c.from-then-up-2.ensures)) c.from_top.ensures

pub returns-else-up-2 : goal.returns-else-up-2
returns-else-up-2 c =
    same_answer c.from_top-else-up-2.result _ _ (top_down c.args.left c.args.right c.args.width c.args.up c.args.size c.args.index _ c.if-right-left.false c.if-up-2.false c.from-else-up-2.ensures) c.from_top-else-up-2.ensures
