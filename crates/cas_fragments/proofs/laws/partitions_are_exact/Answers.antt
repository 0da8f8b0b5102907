use Rattle.cas_fragments.proofs.WholeLaws.{partitions_are_exact}
use Rattle.cas_fragments.proofs.laws.partitions_are_exact.Goals as goal

pub returns : goal.returns
returns c = partitions_are_exact
