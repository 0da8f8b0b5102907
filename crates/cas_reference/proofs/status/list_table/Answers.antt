use Rattle.std.proofs.Common.{[], ap, ◌∙◌}
use Rattle.cas_render.specs.Listing.{listed_of}
use Rattle.cas_render.proofs.Shards.{one_more}
use Rattle.cas_reference.proofs.status.list_table.Goals as goal

pub loop-shard-preserved : goal.loop-shard-preserved
loop-shard-preserved c =
    one_more (λ n. listed_of c.args.table.now n []) c.args.listed.now.items c.loop-shard.listed.items c.push.new.self.items c.loop-shard.shard
    c.in_ok-listed_of.field-0 c.loop-shard.invariant c.in_ok-push.ensures.items
    (c.in_ok-listed_of.ensures ∙ ap (listed_of c.args.table.now c.loop-shard.shard) c.new.ensures.items)
