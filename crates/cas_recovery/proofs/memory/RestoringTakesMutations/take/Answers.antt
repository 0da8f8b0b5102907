use Rattle.std.proofs.Common.{◌≡◌, List, Option, Some, subst}
use Rattle.cas_shard.specs.Stands.{ShardState}
use Rattle.cas_recovery.specs.Inner.Restoring.{HasRestored}
use Rattle.cas_recovery.proofs.memory.RestoringTakesMutations.take.Goals as goal

pub returns-in-Ok-clause-taken : goal.returns-in-Ok-clause-taken
returns-in-Ok-clause-taken g c before has =
    let value = c.in-Some.ensures.value in
    let is : c.args.self.now.shards ≡ Some c.in-Some.shards = cc in
    c.in-Ok.ensures before (subst (λ (o : Option (List ShardState)). HasRestored before o) is has)
