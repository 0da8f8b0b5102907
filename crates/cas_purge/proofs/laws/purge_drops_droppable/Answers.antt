use Rattle.cas_purge.proofs.Dropping.{purge_drops_droppable}
use Rattle.cas_purge.proofs.laws.purge_drops_droppable.Goals as goal

pub returns : goal.returns
returns c = purge_drops_droppable
