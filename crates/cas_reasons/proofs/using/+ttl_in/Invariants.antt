use Rattle.std.proofs.Common.{length}
use Rattle.cas_reasons.proofs.using.+ttl_in.Given as goal

abbrev pub decreases-ttl_in : goal.decreases-ttl_in
decreases-ttl_in l = length l.uses.now
