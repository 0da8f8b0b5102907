use Rattle.cas_blocks.proofs.Middle.{tables_are_read}
use Rattle.cas_blocks.proofs.laws.tables_are_read.Goals as goal

pub returns : goal.returns
returns c = tables_are_read
