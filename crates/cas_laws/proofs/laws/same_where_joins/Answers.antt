use Rattle.cas_laws.proofs.JoinProofs.{same_where_joins}
use Rattle.cas_laws.proofs.laws.same_where_joins.Goals as goal

pub returns : goal.returns
returns c = same_where_joins
