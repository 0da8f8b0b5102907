use Rattle.cas_flush.proofs.Silent.{silent_ranges}
use Rattle.cas_flush.proofs.laws.silent_are_ranges.Goals as goal

pub returns : goal.returns
returns c = silent_ranges
