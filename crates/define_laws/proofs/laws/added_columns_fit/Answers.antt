use Rattle.define_laws.proofs.Tables.{added_columns_fit}
use Rattle.define_laws.proofs.laws.added_columns_fit.Goals as goal

pub returns : goal.returns
returns c = added_columns_fit
