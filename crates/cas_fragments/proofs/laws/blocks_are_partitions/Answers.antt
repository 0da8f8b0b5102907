use Rattle.cas_fragments.proofs.CutLaws.{blocks_are_partitions}
use Rattle.cas_fragments.proofs.laws.blocks_are_partitions.Goals as goal

pub returns : goal.returns
returns c = blocks_are_partitions
