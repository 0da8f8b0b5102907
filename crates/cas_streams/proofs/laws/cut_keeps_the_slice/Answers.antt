use Rattle.cas_streams.proofs.Cutting.{cut_keeps_the_slice}
use Rattle.cas_streams.proofs.laws.cut_keeps_the_slice.Goals as goal

pub returns : goal.returns
returns c = cut_keeps_the_slice
