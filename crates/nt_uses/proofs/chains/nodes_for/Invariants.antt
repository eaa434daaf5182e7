use Rattle.std.proofs.Common.{◌≡◌, map, take}
use Rattle.nt_types.specs.Opened.{view_of}
use Rattle.nt_uses.specs.Functions.{node_of}
use Rattle.nt_uses.proofs.chains.nodes_for.Given as goal

abbrev pub invariant-loop-item : goal.invariant-loop-item
invariant-loop-item l = l.all ≡ map (node_of (view_of l.scopes) (map (λ f. f.now) l.functions)) (map (λ f. f.now) (take l.item-index l.functions))
