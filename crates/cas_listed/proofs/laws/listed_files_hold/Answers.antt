use Rattle.cas_listed.proofs.Holding.{listed_files_hold}
use Rattle.cas_listed.proofs.laws.listed_files_hold.Goals as goal

pub returns : goal.returns
returns c = listed_files_hold
