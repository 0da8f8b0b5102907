use Rattle.cas_tables.proofs.IndexFits.{index_fits}
use Rattle.cas_tables.proofs.InfoFits.{filter_fits, info_fits, footer_fits}
use Rattle.cas_tables.proofs.laws.parts_fit.Goals as goal

pub returns : goal.returns
returns c = record { index = index_fits; filter = filter_fits; info = info_fits; footer = footer_fits }
