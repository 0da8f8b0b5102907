use Rattle.cas_cell.proofs.OrderLaws.{live_laws}
use Rattle.cas_cell.proofs.laws.live_laws.Goals as goal

pub returns : goal.returns
returns c = live_laws
