use Rattle.cas_purge.proofs.Keeping.{purge_keeps_answers}
use Rattle.cas_purge.proofs.laws.purge_keeps_answers.Goals as goal

pub returns : goal.returns
returns c = purge_keeps_answers
