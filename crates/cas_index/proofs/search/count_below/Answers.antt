use Rattle.std.proofs.Common.{rules}
use Rattle.std.specs.Ordering.{is_lt}
use Rattle.std.proofs.lemmas.List.Sorted.{IsPartitionPoint-from_clause}
use Rattle.cas_types.specs.Values.{bytes_cmp}
use Rattle.cas_index.proofs.SearchLaws.{parted_keys}
use Rattle.cas_index.proofs.search.count_below.Goals as goal

pub returns : goal.returns
returns c =
    let parted = parted_keys c.args.partitions.now c.args.key.now c.requires in
    IsPartitionPoint-from_clause (λ p. is_lt (bytes_cmp p.key c.args.key.now)) _ _ c.partition_point.ensures.partitioned parted (λ a r q k. search rules)
