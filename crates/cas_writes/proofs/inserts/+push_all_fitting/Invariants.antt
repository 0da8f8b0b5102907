use Rattle.std.proofs.Common.{length}
use Rattle.cas_writes.proofs.inserts.+push_all_fitting.Given as goal

abbrev pub decreases-push_all_fitting : goal.decreases-push_all_fitting
decreases-push_all_fitting l = length l.names.now
