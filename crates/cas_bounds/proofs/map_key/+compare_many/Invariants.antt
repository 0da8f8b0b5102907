use Rattle.std.proofs.Common.{length}
use Rattle.cas_bounds.proofs.map_key.+compare_many.Given as goal

abbrev pub decreases-compare_many : goal.decreases-compare_many
decreases-compare_many l = length l.a.now
