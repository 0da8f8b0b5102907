use Rattle.define_laws.proofs.Telling.{defined_tables_may_be_told}
use Rattle.define_laws.proofs.laws.defined_tables_may_be_told.Goals as goal

pub returns : goal.returns
returns c = defined_tables_may_be_told
