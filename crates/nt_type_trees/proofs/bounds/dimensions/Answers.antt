use Rattle.nt_type_trees.proofs.Walking.{dims_start, dims_turn, dims_end}
use Rattle.nt_type_trees.proofs.bounds.dimensions.Goals as goal

pub loop-left-init : goal.loop-left-init
loop-left-init g c = rw c.new.ensures (dims_start (g.L.Lookup.sees c.args.known.now) c.args.dims.now)

pub loop-left-preserved : goal.loop-left-preserved
loop-left-preserved g c = rw c.in_ok-all.ensures (dims_turn c.loop-left-item.result c.loop-left-test.true c.loop-left-item.is c.loop-left.invariant c.in_ok-one.ensures)

pub returns : goal.returns
returns g c = dims_end c.loop-left-test.false c.loop-left.invariant
