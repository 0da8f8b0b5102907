use Rattle.cas_streams.proofs.Merges.{merge_is_join}
use Rattle.cas_streams.proofs.laws.merge_is_join.Goals as goal

pub returns : goal.returns
returns c = merge_is_join
