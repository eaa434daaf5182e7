use Rattle.nt_semantics.proofs.Orders.{declared_orders}
use Rattle.nt_semantics.proofs.laws.declared_are_orders.Goals as goal

pub returns : goal.returns
returns c = declared_orders
