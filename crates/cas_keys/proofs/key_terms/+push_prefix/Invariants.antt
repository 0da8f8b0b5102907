use Rattle.std.proofs.Common.{length}
use Rattle.cas_keys.proofs.key_terms.+push_prefix.Given as goal

abbrev pub decreases-push_prefix : goal.decreases-push_prefix
decreases-push_prefix l = length l.columns.now
