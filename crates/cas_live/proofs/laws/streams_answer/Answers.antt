use Rattle.cas_live.proofs.Answering.{streams_answer}
use Rattle.cas_live.proofs.laws.streams_answer.Goals as goal

pub returns : goal.returns
returns c = streams_answer
