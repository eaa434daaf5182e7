use Rattle.std.proofs.Common.{◌≡◌, ◌++◌, map, take}
use Rattle.std.specs.List.{flat_map}
use Rattle.nt_types.specs.Opened.{view_of}
use Rattle.nt_uses.specs.Functions.{call_to, function_used}
use Rattle.nt_uses.proofs.chains.add_calls.Given as goal

abbrev pub invariant-loop-used : goal.invariant-loop-used
invariant-loop-used l = l.all ≡ l.fn.all ++ flat_map (λ u. call_to (map (λ f. f.now) l.functions) (function_used (view_of l.scopes).whats u)) (take l.used-index l.uses)
