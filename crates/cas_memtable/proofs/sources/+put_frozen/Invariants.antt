use Rattle.std.proofs.Common.{length}
use Rattle.cas_memtable.proofs.sources.+put_frozen.Given as goal

abbrev pub decreases-put_frozen : goal.decreases-put_frozen
decreases-put_frozen l = length l.frozen.now
