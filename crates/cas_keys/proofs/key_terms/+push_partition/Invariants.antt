use Rattle.std.proofs.Common.{length}
use Rattle.cas_keys.proofs.key_terms.+push_partition.Given as goal

abbrev pub decreases-push_partition : goal.decreases-push_partition
decreases-push_partition l = length l.columns.now
