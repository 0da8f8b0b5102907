use Rattle.cas_sessions.proofs.FullNoMore.{full_no_more}
use Rattle.cas_sessions.proofs.laws.full_no_more.Goals as goal

pub returns : goal.returns
returns c = full_no_more
