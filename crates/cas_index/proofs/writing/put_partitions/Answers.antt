use Rattle.std.proofs.Common.{length, vec_len, ap, arith}
use Rattle.std.proofs.lemmas.List.Folds.{length-flat_map-take}
use Rattle.cas_index.specs.Spelling.{partition_bytes}
use Rattle.cas_index.proofs.Lengths.{kept_of, on_any}
use Rattle.cas_index.proofs.writing.put_partitions.Goals as goal

pub returns-in_err-put_partition-clause-kept : goal.returns-in_err-put_partition-clause-kept
returns-in_err-put_partition-clause-kept c =
    on_any c.from_residual.result _ (kept_of (vec_len c.args.out.now) (vec_len c.loop-partition.out) c.put_partition.new.out.items c.loop-partition.out.items c.args.out.now.items _
    c.in_err-put_partition.ensures.kept c.loop-partition.invariant.written (omega (arith, c.args.out.now.ok)) (omega (arith, c.loop-partition.invariant.long)))

pub returns-in_err-put_partition-clause-full : goal.returns-in_err-put_partition-clause-full
returns-in_err-put_partition-clause-full c =
    on_any c.from_residual.result _ (omega (
      arith,
      length-flat_map-take partition_bytes c.args.partitions.now c.loop-partition.partition-index c.partition-item.result c.loop-partition-test.true,
      ap (λ b. length (partition_bytes b)) c.partition-item.is,
      c.in_err-put_partition.ensures.full,
      c.loop-partition.invariant.long,
      c.loop-partition.invariant.capacity,
    ))
