use Rattle.std.proofs.Common.{length}
use Rattle.cas_keys.proofs.key_terms.+sole_clustering.Given as goal

abbrev pub decreases-sole_clustering : goal.decreases-sole_clustering
decreases-sole_clustering l = length l.columns.now
