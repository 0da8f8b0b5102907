use Rattle.cas_laws.proofs.AliveProofs.{paths_are}
use Rattle.cas_laws.proofs.laws.paths_are.Goals as goal

pub returns : goal.returns
returns c = paths_are
