use Rattle.cas_laws.proofs.JoinProofs.{joined}
use Rattle.cas_laws.proofs.laws.joined.Goals as goal

pub returns : goal.returns
returns c = joined
