use Rattle.std.proofs.Common.{length}
use Rattle.cas_bounds.proofs.order.+few_orders.Given as goal

abbrev pub decreases-few_orders : goal.decreases-few_orders
decreases-few_orders l = length l.columns.now
