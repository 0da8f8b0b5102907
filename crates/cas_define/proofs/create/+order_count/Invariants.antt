use Rattle.std.proofs.Common.{length}
use Rattle.cas_define.proofs.create.+order_count.Given as goal

abbrev pub decreases-order_count : goal.decreases-order_count
decreases-order_count l = length l.options.now
