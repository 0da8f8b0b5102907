use Rattle.std.specs.Prelude.{map, slice_get}
use Rattle.std.specs.Arc.{arc_value}
use Rattle.cas_flushing.proofs.Writing.{unwritten, written}
use Rattle.cas_flushing.proofs.write.write_frozen.Goals as goal

pub returns-clause-written : goal.returns-clause-written
returns-clause-written g c =
    written g.D.Draft.number g.D.Draft.written c.args.table.now c.args.index c.args.number (slice_get c.args.shard.now.stores c.args.table.now.number)
    (map arc_value c.frozen-memtables.result.now) c.frozen-memtables.ensures c.args.draft c.flush_parts.result c.as_slice.result.now c.as_slice.ensures c.flush_parts.ensures.written

pub returns-clause-why : goal.returns-clause-why
returns-clause-why g c =
    unwritten g.D.Draft.number g.D.Draft.written c.args.table.now c.args.index c.args.number (slice_get c.args.shard.now.stores c.args.table.now.number)
    (map arc_value c.frozen-memtables.result.now) c.frozen-memtables.ensures c.args.draft c.flush_parts.result c.as_slice.result.now c.as_slice.ensures c.flush_parts.ensures.why
