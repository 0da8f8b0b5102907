use Rattle.std.proofs.Common.{length}
use Rattle.cas_keys.proofs.key_terms.+term_in_insert.Given as goal

abbrev pub decreases-term_in_insert : goal.decreases-term_in_insert
decreases-term_in_insert l = length l.names.now
