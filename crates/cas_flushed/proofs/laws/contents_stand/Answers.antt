use Rattle.cas_flushed.proofs.Standing.{contents_stand}
use Rattle.cas_flushed.proofs.laws.contents_stand.Goals as goal

pub returns : goal.returns
returns c = contents_stand
