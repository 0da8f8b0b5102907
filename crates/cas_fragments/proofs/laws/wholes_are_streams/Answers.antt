use Rattle.cas_fragments.proofs.PartitionLaws.{wholes_are_streams}
use Rattle.cas_fragments.proofs.laws.wholes_are_streams.Goals as goal

pub returns : goal.returns
returns c = wholes_are_streams
