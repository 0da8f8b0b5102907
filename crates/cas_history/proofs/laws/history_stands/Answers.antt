use Rattle.cas_history.proofs.Orders.{stands}
use Rattle.cas_history.proofs.laws.history_stands.Goals as goal

pub returns : goal.returns
returns g c = record { law = stands _ c.stands.ensures }
