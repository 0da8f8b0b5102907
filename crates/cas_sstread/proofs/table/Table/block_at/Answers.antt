use Rattle.std.proofs.Common.{◌≡◌, Some, subst}
use Rattle.std.specs.Prelude.{slice_get}
use Rattle.cas_index.specs.declared.entries.PartitionEntry.{PartitionEntry}
use Rattle.cas_index.specs.Searches.{IsBlockFor}
use Rattle.cas_sstread.specs.Loading.{Held}
use Rattle.cas_sstread.proofs.Within.{within_for}
use Rattle.cas_sstread.proofs.table.Table.block_at.Goals as goal

pub returns-clause-within : goal.returns-clause-within
returns-clause-within g c =
    let held = c.args.self.now in
    within_for c.args.slice.now held.kept.end held.kept.partitions c.args.partition c.block_for.result c.requires.there c.partitions-partitions.ensures.before
    (subst (λ (h : Held). (p : PartitionEntry) → slice_get h.kept.partitions c.args.partition ≡ Some p → IsBlockFor c.args.slice.now p.blocks c.block_for.result)
    c.self.view_is c.block_for.ensures)
