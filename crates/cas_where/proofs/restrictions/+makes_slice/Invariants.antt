use Rattle.std.proofs.Common.{length}
use Rattle.cas_where.proofs.restrictions.+makes_slice.Given as goal

abbrev pub decreases-makes_slice : goal.decreases-makes_slice
decreases-makes_slice l = length l.columns.now
