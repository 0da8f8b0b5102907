use Rattle.cas_filter.proofs.Exact.{filter_exact}
use Rattle.cas_filter.proofs.laws.filters_are_exact.Goals as goal

pub returns : goal.returns
returns c = filter_exact
