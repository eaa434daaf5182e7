use Rattle.nettype_sim.proofs.Lines.{slot_is}
use Rattle.nettype_sim.proofs.writing.print_slot.Goals as goal

pub returns : goal.returns
returns c =
    slot_is c.args.design.now c.args.state.now c.time.result c.args.out.now c.print_moment.new.out c.print_nets.new.out c.requires.plain_design c.requires.plain c.time.ensures c.in_ok-print_moment.ensures c.in_ok-print_nets.ensures
