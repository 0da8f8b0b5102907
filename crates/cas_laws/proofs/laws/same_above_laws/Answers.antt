use Rattle.cas_laws.proofs.AboveProofs.{same_above_laws}
use Rattle.cas_laws.proofs.laws.same_above_laws.Goals as goal

pub returns : goal.returns
returns c = same_above_laws
