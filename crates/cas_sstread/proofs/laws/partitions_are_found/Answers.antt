use Rattle.cas_sstread.proofs.PartitionsFound.{partitions_are_found}
use Rattle.cas_sstread.proofs.laws.partitions_are_found.Goals as goal

pub returns : goal.returns
returns c = partitions_are_found
