use Rattle.cas_shard.proofs.Numbering.{all_stand}
use Rattle.cas_shard.proofs.shard.Shard.all_are_shown.Goals as goal

pub returns : goal.returns
returns g c tables s h table key = all_stand s table key h.numbers
