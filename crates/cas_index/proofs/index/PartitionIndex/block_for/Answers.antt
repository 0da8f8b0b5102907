use Rattle.std.proofs.Common.{length, sym, ap, ◌∙◌, arith}
use Rattle.cas_index.specs.declared.entries.PartitionEntry.{PartitionEntry}
use Rattle.cas_index.proofs.SearchLaws.{ordered_for, same_blocks}
use Rattle.cas_index.proofs.index.PartitionIndex.block_for.Goals as goal

pub block_in-requires-clause-ordered : goal.block_in-requires-clause-ordered
block_in-requires-clause-ordered c =
    (ordered_for c.args.self.now.order c.args.slice.now.lo.order c.as_slice-partitions.result.now c.args.partition c.index-partitions-partition.result c.as_slice.result.now
    c.as_slice-partitions.ensures.entries (omega (arith, ap length c.as_slice-partitions.ensures.partitions)) c.index-partitions-partition.is
    (c.as_slice.ensures ∙ ap (λ (p : PartitionEntry). p.blocks) (sym c.index-partitions-partition.is)) c.requires.one.0).0

pub block_in-requires-clause-few : goal.block_in-requires-clause-few
block_in-requires-clause-few c =
    (ordered_for c.args.self.now.order c.args.slice.now.lo.order c.as_slice-partitions.result.now c.args.partition c.index-partitions-partition.result c.as_slice.result.now
    c.as_slice-partitions.ensures.entries (omega (arith, ap length c.as_slice-partitions.ensures.partitions)) c.index-partitions-partition.is
    (c.as_slice.ensures ∙ ap (λ (p : PartitionEntry). p.blocks) (sym c.index-partitions-partition.is)) c.requires.one.0).1

pub returns : goal.returns
returns c =
    same_blocks c.args.slice.now c.args.self.now.partitions c.as_slice-partitions.result.now c.args.partition c.index-partitions-partition.result c.as_slice.result.now
    c.block_in.result c.as_slice-partitions.ensures.partitions (omega (arith, ap length c.as_slice-partitions.ensures.partitions)) c.index-partitions-partition.is
    (c.as_slice.ensures ∙ ap (λ (p : PartitionEntry). p.blocks) (sym c.index-partitions-partition.is)) c.block_in.ensures
