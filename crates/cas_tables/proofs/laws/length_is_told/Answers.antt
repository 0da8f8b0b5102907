use Rattle.cas_tables.proofs.Lengths.{length_is_told}
use Rattle.cas_tables.proofs.laws.length_is_told.Goals as goal

pub returns : goal.returns
returns c = length_is_told
