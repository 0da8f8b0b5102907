use Rattle.cas_tables.proofs.Lengths.{tables_are_one}
use Rattle.cas_tables.proofs.laws.tables_are_one.Goals as goal

pub returns : goal.returns
returns c = tables_are_one
