use Rattle.nt_semantics.proofs.Orders.{orders}
use Rattle.nt_semantics.proofs.laws.orders_are_permutations.Goals as goal

pub returns : goal.returns
returns c = orders
