use Rattle.cas_flushing.proofs.Tables.{added_columns_stay}
use Rattle.cas_flushing.proofs.laws.added_columns_stay.Goals as goal

pub returns : goal.returns
returns c = added_columns_stay
