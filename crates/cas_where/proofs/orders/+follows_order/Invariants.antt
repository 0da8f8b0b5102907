use Rattle.std.proofs.Common.{length}
use Rattle.cas_where.proofs.orders.+follows_order.Given as goal

abbrev pub decreases-follows_order : goal.decreases-follows_order
decreases-follows_order l = length l.columns.now
