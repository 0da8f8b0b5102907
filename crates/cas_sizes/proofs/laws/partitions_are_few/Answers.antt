use Rattle.cas_sizes.proofs.Keys.{partitions_are_few}
use Rattle.cas_sizes.proofs.laws.partitions_are_few.Goals as goal

pub returns : goal.returns
returns c = partitions_are_few
