use Rattle.define_laws.proofs.Stated.{stated_tables_fit}
use Rattle.define_laws.proofs.laws.stated_tables_fit.Goals as goal

pub returns : goal.returns
returns c = stated_tables_fit
