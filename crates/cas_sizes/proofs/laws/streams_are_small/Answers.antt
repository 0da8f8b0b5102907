use Rattle.cas_sizes.proofs.Streams.{streams_are_small}
use Rattle.cas_sizes.proofs.laws.streams_are_small.Goals as goal

pub returns : goal.returns
returns c = streams_are_small
