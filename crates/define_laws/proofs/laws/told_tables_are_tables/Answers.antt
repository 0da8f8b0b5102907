use Rattle.define_laws.proofs.Told.{told_tables_are_tables}
use Rattle.define_laws.proofs.laws.told_tables_are_tables.Goals as goal

pub returns : goal.returns
returns c = told_tables_are_tables
