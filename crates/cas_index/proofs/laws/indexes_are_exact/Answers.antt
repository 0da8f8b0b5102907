use Rattle.cas_index.proofs.IndexLaws.{index_exact}
use Rattle.cas_index.proofs.laws.indexes_are_exact.Goals as goal

pub returns : goal.returns
returns c = index_exact
