use Rattle.std.proofs.Common.{length}
use Rattle.cas_skips.proofs.notes.+same_order.Given as goal

abbrev pub decreases-same_order : goal.decreases-same_order
decreases-same_order l = length l.a.now
