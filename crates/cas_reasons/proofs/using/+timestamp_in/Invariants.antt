use Rattle.std.proofs.Common.{length}
use Rattle.cas_reasons.proofs.using.+timestamp_in.Given as goal

abbrev pub decreases-timestamp_in : goal.decreases-timestamp_in
decreases-timestamp_in l = length l.uses.now
