use Rattle.std.proofs.Common.{length}
use Rattle.cas_keys.proofs.key_terms.+sole_column.Given as goal

abbrev pub decreases-sole_column : goal.decreases-sole_column
decreases-sole_column l = length l.columns.now
