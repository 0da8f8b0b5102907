use Rattle.cas_laws.proofs.AliveProofs.{same_answers}
use Rattle.cas_laws.proofs.laws.same_answers.Goals as goal

pub returns : goal.returns
returns c = same_answers
