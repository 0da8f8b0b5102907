use Rattle.cas_stored.proofs.WellRead.{files_are_read}
use Rattle.cas_stored.proofs.laws.files_are_read.Goals as goal

pub returns : goal.returns
returns c = files_are_read
