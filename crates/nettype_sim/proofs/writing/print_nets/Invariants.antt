use Rattle.std.proofs.Common.{◌≡◌, ◌++◌}
use Rattle.nt_semantics.specs.Execution.{observation_of}
use Rattle.nettype_sim.specs.Nets.{net_lines}
use Rattle.nettype_sim.proofs.writing.print_nets.Given as goal

abbrev pub invariant-loop-index : goal.invariant-loop-index
invariant-loop-index l = l.out ≡ l.initial.out ++ net_lines l.design (observation_of l.state) l.index
