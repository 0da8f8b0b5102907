use Rattle.std.proofs.Common.{length}
use Rattle.cas_bounds.proofs.map_key.+compare_orders.Given as goal

abbrev pub decreases-compare_orders : goal.decreases-compare_orders
decreases-compare_orders l = length l.a.now
