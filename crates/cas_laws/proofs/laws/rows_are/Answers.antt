use Rattle.cas_laws.proofs.AliveProofs.{rows_are}
use Rattle.cas_laws.proofs.laws.rows_are.Goals as goal

pub returns : goal.returns
returns c = rows_are
