use Rattle.std.proofs.Common.{length}
use Rattle.cas_writes.proofs.effects.+push_inserted.Given as goal

abbrev pub decreases-push_inserted : goal.decreases-push_inserted
decreases-push_inserted l = length l.names.now
