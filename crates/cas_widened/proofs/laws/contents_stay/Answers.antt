use Rattle.cas_widened.proofs.Files.{contents_stay}
use Rattle.cas_widened.proofs.laws.contents_stay.Goals as goal

pub returns : goal.returns
returns c = contents_stay
