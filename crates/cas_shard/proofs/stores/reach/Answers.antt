use Rattle.std.proofs.Common.{rules}
use Rattle.cas_shard.proofs.InMemory.{bytes_pushed, pushed_too}
use Rattle.cas_shard.proofs.Memory.{pushed_further}
use Rattle.cas_shard.proofs.stores.reach.Goals as goal

pub loop-alloc-preserved : goal.loop-alloc-preserved
loop-alloc-preserved g c =
    let so_far = c.loop-alloc.invariant in
    let to = pushed_further c.args.stores.now.items c.loop-alloc.stores.items c.push.new.self.items c.in_ok-new.field-0 c.args.table so_far.0 so_far.1 so_far.2 c.in_ok-new.ensures.holds c.in_ok-new.ensures.files
    c.in_ok-push.ensures.items (search rules) in (
      to.0,
      to.1,
      to.2,
      pushed_too c.args.stores.now.items c.loop-alloc.stores.items c.push.new.self.items c.in_ok-new.field-0 so_far.3 c.in_ok-new.ensures.memory c.in_ok-push.ensures.items,
      bytes_pushed c.args.stores.now.items c.loop-alloc.stores.items c.push.new.self.items c.in_ok-new.field-0 so_far.4 c.in_ok-new.ensures.bytes c.in_ok-push.ensures.items,
    )
