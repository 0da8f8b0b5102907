use Rattle.cas_info.proofs.OverlapLaws.{shared, found}
use Rattle.cas_info.proofs.laws.overlap_is_a_key.Goals as goal

pub returns : goal.returns
returns c = record { shared = shared; found = found }
