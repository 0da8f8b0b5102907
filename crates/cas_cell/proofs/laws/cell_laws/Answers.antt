use Rattle.cas_cell.proofs.OrderLaws.{cell_laws}
use Rattle.cas_cell.proofs.laws.cell_laws.Goals as goal

pub returns : goal.returns
returns c = cell_laws
