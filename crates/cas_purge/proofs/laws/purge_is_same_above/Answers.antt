use Rattle.cas_purge.proofs.Keeping.{purge_is_same_above}
use Rattle.cas_purge.proofs.laws.purge_is_same_above.Goals as goal

pub returns : goal.returns
returns c = purge_is_same_above
