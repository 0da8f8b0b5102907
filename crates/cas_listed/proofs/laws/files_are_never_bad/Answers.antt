use Rattle.cas_listed.proofs.Holding.{files_are_never_bad}
use Rattle.cas_listed.proofs.laws.files_are_never_bad.Goals as goal

pub returns : goal.returns
returns c = files_are_never_bad
