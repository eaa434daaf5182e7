use Rattle.std.proofs.Common.{◌≡◌, ◌++◌, map, take}
use Rattle.nt_own_names.specs.Twice.{named}
use Rattle.nt_own_names.proofs.functions.add_locals.Given as goal

abbrev pub invariant-loop-kind : goal.invariant-loop-kind
invariant-loop-kind l = l.all ≡ l.fn.all ++ map (λ a. named a.1) (take l._kind-index l.locals)
