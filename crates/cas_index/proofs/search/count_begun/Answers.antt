use Rattle.std.proofs.Common.{not, rules}
use Rattle.std.specs.Ordering.{is_gt}
use Rattle.std.proofs.lemmas.List.Sorted.{IsPartitionPoint-from_clause}
use Rattle.cas_bounds.specs.Cuts.{cut_cmp}
use Rattle.cas_index.proofs.SearchLaws.{parted_blocks}
use Rattle.cas_index.proofs.search.count_begun.Goals as goal

pub returns-clause-point : goal.returns-clause-point
returns-clause-point c =
    let parted = parted_blocks c.args.blocks.now c.args.cut.now c.requires in
    IsPartitionPoint-from_clause (λ b. not (is_gt (cut_cmp b.cut c.args.cut.now))) _ _ c.partition_point.ensures.partitioned parted (λ a r q k. search rules)
