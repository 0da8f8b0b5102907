use Rattle.cas_partition.proofs.Shown.{slices_show as shown}
use Rattle.cas_partition.proofs.laws.slices_show.Goals as goal

pub returns : goal.returns
returns c = shown
