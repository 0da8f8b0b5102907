use Rattle.cas_widened.proofs.Columns.{same_order}
use Rattle.cas_widened.proofs.laws.orders_stay.Goals as goal

pub returns : goal.returns
returns c = same_order
