use Rattle.cas_laws.proofs.AliveProofs.{alive_answers}
use Rattle.cas_laws.proofs.laws.alive_answers.Goals as goal

pub returns : goal.returns
returns c = alive_answers
