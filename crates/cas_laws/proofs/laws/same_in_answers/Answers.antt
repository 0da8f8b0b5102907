use Rattle.cas_laws.proofs.AliveProofs.{same_in_answers}
use Rattle.cas_laws.proofs.laws.same_in_answers.Goals as goal

pub returns : goal.returns
returns c = same_in_answers
