use Rattle.std.proofs.Common.{◌≡◌, ◌+◌, Ok, sym, ◌∙◌}
use Rattle.cas_bounds.specs.ClusteringOrder.{clustering_order}
use Rattle.cas_fragments.specs.Blocks.{last_place}
use Rattle.cas_fragments.specs.Reading.{body_at}
use Rattle.cas_fragments.proofs.BlockLaws.{blocks_exact}
use Rattle.cas_verify.specs.Inner.Walks.{reached}
use Rattle.cas_verify.proofs.blocks.parse_block.Goals as goal

pub returns-in-Ok-clause-block : goal.returns-in-Ok-clause-block
returns-in-Ok-clause-block g c =
    let cols = c.args.table.now.columns in
    let e : body_at (clustering_order cols) cols (reached c.args.walk.now) (record { bytes = c.args.body.now; at = c.args.walk.now.place + 4 })
    ≡ Ok (c.in-Ok.block.fragments.items, c.read_block.new.reader) =
    (λ i. body_at (sym c.order.ensures i) (sym c.columns.ensures i) (record { last = last_place (sym c.last_of-last.ensures i); force = c.args.walk.now.force })
    (record { bytes = sym c.new-reader.ensures.bytes i; at = sym c.new-reader.ensures.at i })) ∙ c.in-Ok.ensures.exact in
    let f = blocks_exact.found cols c.requires.narrow (reached c.args.walk.now) (record { bytes = c.args.body.now; at = c.args.walk.now.place + 4 }) c.read_block.new.reader
    c.in-Ok.block.fragments.items c.new-reader.ensures.are_bytes e in
    (f.0, f.1)
