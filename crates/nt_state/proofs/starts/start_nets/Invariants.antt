use Rattle.std.proofs.Common.{◌≡◌, map, take}
use Rattle.nt_design.specs.declared.object.Net.{Net}
use Rattle.nt_semantics.specs.State.{net_start}
use Rattle.nt_state.proofs.starts.start_nets.Given as goal

abbrev pub invariant-loop-net : goal.invariant-loop-net
invariant-loop-net l = l.values ≡ map (λ (net : Net). net_start net.kind net.shape) (take l.net-index l.net-items)
