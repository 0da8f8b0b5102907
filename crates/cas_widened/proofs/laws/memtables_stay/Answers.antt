use Rattle.cas_widened.proofs.Memory.{memtables_stay}
use Rattle.cas_widened.proofs.laws.memtables_stay.Goals as goal

pub returns : goal.returns
returns c = memtables_stay
