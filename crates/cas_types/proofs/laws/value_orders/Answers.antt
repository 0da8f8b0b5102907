use Rattle.cas_types.proofs.OrderLaws.{value_orders}
use Rattle.cas_types.proofs.laws.value_orders.Goals as goal

pub returns : goal.returns
returns c = value_orders
