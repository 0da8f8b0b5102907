use Rattle.std.proofs.Common.{length}
use Rattle.cas_bind.proofs.selects.+number_from.Given as goal

abbrev pub decreases-number_from : goal.decreases-number_from
decreases-number_from l = length l.columns.now
