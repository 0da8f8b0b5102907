use Rattle.cas_bounds.proofs.CutLaws.{row_orders}
use Rattle.cas_bounds.proofs.laws.row_orders.Goals as goal

pub returns : goal.returns
returns c = row_orders
