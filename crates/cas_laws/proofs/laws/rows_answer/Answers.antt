use Rattle.cas_laws.proofs.AliveProofs.{rows_answer}
use Rattle.cas_laws.proofs.laws.rows_answer.Goals as goal

pub returns : goal.returns
returns c = rows_answer
