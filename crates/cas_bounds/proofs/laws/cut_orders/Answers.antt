use Rattle.cas_bounds.proofs.CutLaws.{cut_orders}
use Rattle.cas_bounds.proofs.laws.cut_orders.Goals as goal

pub returns : goal.returns
returns c = cut_orders
