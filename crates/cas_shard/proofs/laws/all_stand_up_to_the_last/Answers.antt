use Rattle.cas_shard.proofs.Numbers.{all_stand_up_to}
use Rattle.cas_shard.proofs.laws.all_stand_up_to_the_last.Goals as goal

pub returns : goal.returns
returns c = all_stand_up_to
