use Rattle.std.proofs.Common.{length}
use Rattle.cas_stored.proofs.files.+put_files.Given as goal

abbrev pub decreases-put_files : goal.decreases-put_files
decreases-put_files g l = length l.files.now
