use Rattle.std.proofs.Common.{length}
use Rattle.cas_partition.proofs.runs.+have_one_order.Given as goal

abbrev pub decreases-have_one_order : goal.decreases-have_one_order
decreases-have_one_order l = length l.a.now
