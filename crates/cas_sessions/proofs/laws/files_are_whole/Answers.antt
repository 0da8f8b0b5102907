use Rattle.cas_sessions.proofs.StandWhole.{files_are_whole}
use Rattle.cas_sessions.proofs.laws.files_are_whole.Goals as goal

pub returns : goal.returns
returns c = files_are_whole
