use Rattle.cas_history.proofs.Once.{used_stand}
use Rattle.cas_history.proofs.numbers.Numbers.stand.Goals as goal

pub returns : goal.returns
returns g c = record { law = (used_stand _ c.stands.ensures).0 }
