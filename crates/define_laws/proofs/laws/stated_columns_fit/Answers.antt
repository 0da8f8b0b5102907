use Rattle.define_laws.proofs.Stated.{stated_columns_fit}
use Rattle.define_laws.proofs.laws.stated_columns_fit.Goals as goal

pub returns : goal.returns
returns c = stated_columns_fit
