use Rattle.nt_design.specs.Expressions.{value_of}
use Rattle.nt_values.specs.Typed.{world_in}
use Rattle.nt_values.proofs.path.step_of.Goals as goal

pub returns-in-Item-clause-value : goal.returns-in-Item-clause-value
returns-in-Item-clause-value g c =
    rw c.in-Item.is (c.item_step.ensures.value c.args.left (value_of (g.C.Caller.calls c.args.caller.now) (world_in c.args.world.now) c.in-Item.index c.args.locals.now c.args.left) c.value_of-index.ensures)

pub returns-in-Part-clause-value : goal.returns-in-Part-clause-value
returns-in-Part-clause-value g c =
    rw c.in-Part.is (c.part_step.ensures.value c.args.left (value_of (g.C.Caller.calls c.args.caller.now) (world_in c.args.world.now) c.in-Part.low c.args.locals.now c.args.left) c.value_of-low.ensures)
