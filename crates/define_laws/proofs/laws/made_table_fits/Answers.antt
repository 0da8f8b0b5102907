use Rattle.define_laws.proofs.Tables.{made_table_fits}
use Rattle.define_laws.proofs.laws.made_table_fits.Goals as goal

pub returns : goal.returns
returns c = made_table_fits
