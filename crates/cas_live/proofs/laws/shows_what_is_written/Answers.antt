use Rattle.cas_live.proofs.Answering.{shows_what_is_written}
use Rattle.cas_live.proofs.laws.shows_what_is_written.Goals as goal

pub returns : goal.returns
returns c = shows_what_is_written
