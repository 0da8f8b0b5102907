use Rattle.std.proofs.Common.{subst}
use Rattle.cas_partition.specs.Partitions.{MakesPlaces}
use Rattle.cas_partition.proofs.Lists.{made_then_joined}
use Rattle.cas_partition.proofs.partition.Partition.insert_rows.Goals as goal

pub returns-clause-joins : goal.returns-clause-joins
returns-clause-joins c =
    made_then_joined c.args.atoms c.args.self.now c.reserve_all.new.self c.apply_all.new.self
    (subst (λ l. MakesPlaces l c.args.self.now c.reserve_all.new.self) c.as_slice.ensures c.in_ok-reserve_all.ensures.makes) c.apply_all.ensures
