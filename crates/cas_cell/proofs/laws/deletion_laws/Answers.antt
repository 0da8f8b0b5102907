use Rattle.cas_cell.proofs.OrderLaws.{deletion_laws}
use Rattle.cas_cell.proofs.laws.deletion_laws.Goals as goal

pub returns : goal.returns
returns c = deletion_laws
