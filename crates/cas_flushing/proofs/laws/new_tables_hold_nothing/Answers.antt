use Rattle.cas_flushing.proofs.Tables.{new_tables_hold_nothing}
use Rattle.cas_flushing.proofs.laws.new_tables_hold_nothing.Goals as goal

pub returns : goal.returns
returns c = new_tables_hold_nothing
