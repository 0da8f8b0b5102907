-- What stands before the place where the partitions end.
use Rattle.std.specs.Prelude.{ℕ, ◌<◌}
use Rattle.std.specs.List.{AllByRecursion}
use Rattle.cas_index.specs.declared.entries.PartitionEntry.{PartitionEntry}

-- a partition, and each of its blocks
pub record StandsBefore (end : ℕ) (p : PartitionEntry) : Type 0 where
  pub place : p.place < end
  pub blocks : AllByRecursion (λ b. b.place < end) p.blocks
