use Rattle.std.proofs.Common.{not, rules}
use Rattle.std.specs.Ordering.{is_gt}
use Rattle.std.proofs.lemmas.List.Sorted.{IsPartitionPoint-from_clause}
use Rattle.cas_types.specs.Values.{bytes_cmp}
use Rattle.cas_index.proofs.SearchLaws.{parted_keys_upto}
use Rattle.cas_index.proofs.search.count_upto.Goals as goal

pub returns : goal.returns
returns c =
    let parted = parted_keys_upto c.args.partitions.now c.args.key.now c.requires in
    IsPartitionPoint-from_clause (λ p. not (is_gt (bytes_cmp p.key c.args.key.now))) _ _ c.partition_point.ensures.partitioned parted (λ a r q k. search rules)
