use Rattle.std.proofs.Common.{length}
use Rattle.cas_rows.proofs.alike.compare_run.Given as goal

abbrev pub decreases-loop-clock : goal.decreases-loop-clock
decreases-loop-clock l = length l.rest
