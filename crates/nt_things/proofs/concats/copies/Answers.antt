use Rattle.nt_things.proofs.Joining.{copies_more}
use Rattle.nt_things.proofs.concats.copies.Goals as goal

pub loop-turn-preserved : goal.loop-turn-preserved
loop-turn-preserved c = copies_more c.loop-turn._turn c.args.parts.now c.loop-turn.all c.add.new.all c.loop-turn.invariant c.in_ok-add.ensures
