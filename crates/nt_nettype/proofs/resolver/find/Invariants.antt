use Rattle.std.proofs.Common.{◌≡◌, drop}
use Rattle.nt_nettype.specs.Resolvers.{function_at}
use Rattle.nt_nettype.proofs.resolver.find.Given as goal

abbrev pub invariant-loop-function : goal.invariant-loop-function
invariant-loop-function l = function_at l.functions l.at ≡ function_at (drop l.function-index l.functions) l.at
