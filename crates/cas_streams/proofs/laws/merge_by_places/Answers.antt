use Rattle.cas_streams.proofs.Halves.{merge_by_places}
use Rattle.cas_streams.proofs.laws.merge_by_places.Goals as goal

pub returns : goal.returns
returns c = merge_by_places
