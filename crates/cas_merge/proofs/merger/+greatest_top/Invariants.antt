use Rattle.std.proofs.Common.{length}
use Rattle.cas_merge.proofs.merger.+greatest_top.Given as goal

abbrev pub decreases-greatest_top : goal.decreases-greatest_top
decreases-greatest_top g l = length l.sources.now
