use Rattle.std.proofs.Common.{length}
use Rattle.cas_mentions.proofs.twice.+repeats.Given as goal

abbrev pub decreases-repeats : goal.decreases-repeats
decreases-repeats l = length l.names.now
