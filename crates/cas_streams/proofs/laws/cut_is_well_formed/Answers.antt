use Rattle.cas_streams.proofs.Cutting.{cut_is_well_formed}
use Rattle.cas_streams.proofs.laws.cut_is_well_formed.Goals as goal

pub returns : goal.returns
returns c = cut_is_well_formed
