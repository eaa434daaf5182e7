use Rattle.nt_semantics.specs.Execution.{observation_of}
use Rattle.nettype_sim.proofs.Lines.{lines_more}
use Rattle.nettype_sim.proofs.writing.print_nets.Goals as goal

pub loop-index-preserved : goal.loop-index-preserved
loop-index-preserved c =
    lines_more c.args.design.now (observation_of c.args.state.now) c.loop-index.index c.net-item.result c.net.result.now c.args.out.now c.loop-index.out c.print_net.new.out (rw (← c.as_slice-net-items.ensures) c.loop-index-test.true) (rw (← c.as_slice-net-items.ensures) c.net-item.is) c.net.ensures c.loop-index.invariant c.in_ok-print_net.ensures
