use Rattle.cas_flushed.proofs.Standing.{listed_contents_stand}
use Rattle.cas_flushed.proofs.laws.listed_contents_stand.Goals as goal

pub returns : goal.returns
returns c = listed_contents_stand
