use Rattle.cas_purge.proofs.Formed.{purge_is_well_formed}
use Rattle.cas_purge.proofs.laws.purge_is_well_formed.Goals as goal

pub returns : goal.returns
returns c = purge_is_well_formed
