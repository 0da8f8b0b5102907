use Rattle.cas_streams.proofs.Formed.{merge_is_well_formed}
use Rattle.cas_streams.proofs.laws.merge_is_well_formed.Goals as goal

pub returns : goal.returns
returns c = merge_is_well_formed
