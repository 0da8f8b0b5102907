use Rattle.cas_lasting.proofs.Next.{left_explains}
use Rattle.cas_lasting.proofs.laws.left_explains.Goals as goal

pub returns : goal.returns
returns g c = left_explains _
