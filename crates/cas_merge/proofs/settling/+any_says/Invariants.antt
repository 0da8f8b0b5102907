use Rattle.std.proofs.Common.{length}
use Rattle.cas_merge.proofs.settling.+any_says.Given as goal

abbrev pub decreases-any_says : goal.decreases-any_says
decreases-any_says l = length l.columns.now
