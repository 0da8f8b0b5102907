use Rattle.cql_laws.proofs.ReadBack.{reads_back}
use Rattle.cql_laws.proofs.laws.reads_back.Goals as goal

pub returns : goal.returns
returns c = reads_back
