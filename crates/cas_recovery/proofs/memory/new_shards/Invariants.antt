use Rattle.std.proofs.Common.{◌≡◌, List, [], length}
use Rattle.cas_types.specs.declared.schema.TableSchema.{TableSchema}
use Rattle.cas_recovery.specs.Restored.{AreFilledBy, RememberAll}
use Rattle.cas_recovery.specs.Inner.Restoring.{AreRestored, HaveNoFiles}
use Rattle.cas_recovery.proofs.memory.new_shards.Given as goal

abbrev pub invariant-loop-shard : goal.invariant-loop-shard
invariant-loop-shard g l = record {
  count : length l.shards.items ≡ l._shard;
  no_files : HaveNoFiles l.shards.items;
  new : (tables : List TableSchema) → AreRestored tables [] l.shards.items;
  memory : (tables : List TableSchema) → RememberAll tables [] l.shards.items;
  filled : AreFilledBy [] l.shards.items;
}
