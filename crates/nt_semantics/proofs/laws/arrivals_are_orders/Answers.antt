use Rattle.nt_semantics.proofs.Orders.{arrivals_are_orders}
use Rattle.nt_semantics.proofs.laws.arrivals_are_orders.Goals as goal

pub returns : goal.returns
returns c = arrivals_are_orders
