use Rattle.cas_index.proofs.IndexLaws.{footer_exact}
use Rattle.cas_index.proofs.laws.footers_are_exact.Goals as goal

pub returns : goal.returns
returns c = footer_exact
