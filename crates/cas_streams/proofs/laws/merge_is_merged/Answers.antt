use Rattle.cas_streams.proofs.Written.{merge_is_merged}
use Rattle.cas_streams.proofs.laws.merge_is_merged.Goals as goal

pub returns : goal.returns
returns c = merge_is_merged
