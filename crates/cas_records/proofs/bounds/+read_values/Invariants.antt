use Rattle.std.proofs.Common.{length}
use Rattle.cas_records.proofs.bounds.+read_values.Given as goal

abbrev pub decreases-read_values : goal.decreases-read_values
decreases-read_values l = length l.order.now
