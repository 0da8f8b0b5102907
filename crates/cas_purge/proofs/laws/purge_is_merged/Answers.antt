use Rattle.cas_purge.proofs.Merged.{purge_is_merged}
use Rattle.cas_purge.proofs.laws.purge_is_merged.Goals as goal

pub returns : goal.returns
returns c = purge_is_merged
