use Rattle.std.proofs.Common.{length}
use Rattle.cas_bounds.proofs.cuts.+compare_prefixes.Given as goal

abbrev pub decreases-compare_prefixes : goal.decreases-compare_prefixes
decreases-compare_prefixes l = length l.a.now
