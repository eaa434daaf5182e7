use Rattle.nt_nettype.proofs.Resolving.{returns_told}
use Rattle.nt_nettype.proofs.resolver.returns.Goals as goal

pub returns-in-Some : goal.returns-in-Some
returns-in-Some c = returns_told c.args.function.now c.args.kind.now c.in-Some.own c.equivalent.result c.in-Some.is c.equivalent.ensures
