use Rattle.std.proofs.Common.{None}
use Rattle.std.proofs.lemmas.List.{get_or-replicate}
use Rattle.cas_replay.proofs.lasts.Lasts.none.Goals as goal

pub returns-clause-last : goal.returns-clause-last
returns-clause-last c shard within = get_or-replicate 256 shard None None within
