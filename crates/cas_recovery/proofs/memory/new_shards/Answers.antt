use Rattle.std.proofs.Common.{arith, sym, subst, []}
use Rattle.std.proofs.lemmas.Grind.{common_steps}
use Rattle.cas_recovery.specs.Restored.{AreFilledBy, RememberAll}
use Rattle.cas_recovery.specs.Inner.Restoring.{AreRestored, HaveNoFiles}
use Rattle.cas_recovery.proofs.Restoring.{filled_new, memory_new, no_files_new, one_new}
use Rattle.cas_recovery.proofs.memory.new_shards.Goals as goal

pub loop-shard-preserved : goal.loop-shard-preserved
loop-shard-preserved g c = record {
  count = grind (arith, common_steps);
  no_files = subst HaveNoFiles (sym c.in_ok-push.ensures.items) (no_files_new c.loop-shard.shards.items c.new.result c.loop-shard.invariant.no_files c.new.ensures.files);
  new = λ tables.
      subst (λ xs. AreRestored tables [] xs) (sym c.in_ok-push.ensures.items)
      (one_new tables c.loop-shard.shards.items c.new.result (c.loop-shard.invariant.new tables) (c.new.ensures.stands tables));
  memory = λ tables.
      subst (λ xs. RememberAll tables [] xs) (sym c.in_ok-push.ensures.items)
      (memory_new tables c.loop-shard.shards.items c.new.result (c.loop-shard.invariant.memory tables) c.new.ensures.memory);
  filled = subst (λ xs. AreFilledBy [] xs) (sym c.in_ok-push.ensures.items) (filled_new c.loop-shard.shards.items c.new.result c.loop-shard.invariant.filled c.new.ensures.bytes);
}
