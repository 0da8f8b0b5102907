use Rattle.cas_laws.proofs.JoinProofs.{join_laws}
use Rattle.cas_laws.proofs.laws.join_laws.Goals as goal

pub returns : goal.returns
returns c = join_laws
