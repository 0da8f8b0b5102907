use Rattle.std.proofs.Common.{map, sym, subst}
use Rattle.std.specs.Arc.{arc_value}
use Rattle.cas_bounds.specs.ClusteringOrder.{clustering_order}
use Rattle.cas_flush.specs.Inner.Keys.{KeyFault}
use Rattle.cas_sstwrite.specs.Writers.{contents_of}
use Rattle.cas_flush.proofs.Holding.{low, high}
use Rattle.cas_flush.proofs.Writing.{key_written, key_refused}
use Rattle.cas_flush.proofs.key.write_key.Goals as goal

pub returns-in-Ok-clause-written : goal.returns-in-Ok-clause-written
returns-in-Ok-clause-written g c columns wss ps hold whole w =
    let s = c.args.slice.now in
    let shows = c.in_ok-sources.ensures (clustering_order columns) wss hold.stand (low columns s whole) (high columns s whole) in
    key_written g.D.Draft.number g.D.Draft.written _ _ columns s whole c.args.key.now c.as_slice.result.now (map arc_value c.args.memtables.now) wss hold c.in_ok-sources.sources.items
    (λ vss stand. c.in_ok-sources.ensures (clustering_order columns) vss stand (low columns s whole) (high columns s whole))
    _ _ c.args.writer.now c.partition.new.self ps c.as_slice.ensures c.requires.there (c.new-merged.ensures.fragments shows.streams shows.told)
    (c.new-merged.ensures.top shows.streams shows.told) w c.in-Ok.ensures.held c.in-Ok.ensures.written

pub returns-in-Err-clause-why : goal.returns-in-Err-clause-why
returns-in-Err-clause-why g c columns wss ps hold whole w =
    let s = c.args.slice.now in
    let shows = c.in_ok-sources.ensures (clustering_order columns) wss hold.stand (low columns s whole) (high columns s whole) in
    subst (KeyFault columns (contents_of c.args.writer.now ps) c.args.key.now (map arc_value c.args.memtables.now)) (sym c.fault_of.ensures)
    (key_refused g.D.Draft.number g.D.Draft.written _ _ columns s whole c.args.key.now c.as_slice.result.now (map arc_value c.args.memtables.now) wss hold c.in_ok-sources.sources.items
    (λ vss stand. c.in_ok-sources.ensures (clustering_order columns) vss stand (low columns s whole) (high columns s whole))
    _ _ c.args.writer.now ps c.in-Err.fault c.as_slice.ensures c.requires.there (c.new-merged.ensures.fragments shows.streams shows.told)
    (c.new-merged.ensures.top shows.streams shows.told) w (c.in-Err.ensures.why c.requires.sound))
