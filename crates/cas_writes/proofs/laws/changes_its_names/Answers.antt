use Rattle.cas_writes.proofs.ChangeNames.{changes_its_names}
use Rattle.cas_writes.proofs.laws.changes_its_names.Goals as goal

pub returns : goal.returns
returns c = changes_its_names
