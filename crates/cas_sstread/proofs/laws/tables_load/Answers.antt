use Rattle.cas_sstread.proofs.ContentsLoad.{tables_load}
use Rattle.cas_sstread.proofs.laws.tables_load.Goals as goal

pub returns : goal.returns
returns c = tables_load
