use Rattle.std.proofs.Common.{length}
use Rattle.cas_merge.proofs.settling.+all_bare.Given as goal

abbrev pub decreases-all_bare : goal.decreases-all_bare
decreases-all_bare l = length l.cells.now
