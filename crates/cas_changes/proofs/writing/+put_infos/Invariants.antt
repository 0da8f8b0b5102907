use Rattle.std.proofs.Common.{length}
use Rattle.cas_changes.proofs.writing.+put_infos.Given as goal

abbrev pub decreases-put_infos : goal.decreases-put_infos
decreases-put_infos l = length l.infos.now
