use Rattle.std.proofs.Common.{length}
use Rattle.cas_memtable.proofs.scan.+next_key.Given as goal

abbrev pub decreases-next_key : goal.decreases-next_key
decreases-next_key l = length l.memtables.now
