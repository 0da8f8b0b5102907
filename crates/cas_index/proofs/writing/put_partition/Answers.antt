use Rattle.std.proofs.Common.{length, ap, arith}
use Rattle.cas_index.proofs.Lengths.{on_any, partition_long}
use Rattle.cas_index.proofs.writing.put_partition.Goals as goal

pub returns-in_err-put_head-clause-full : goal.returns-in_err-put_head-clause-full
returns-in_err-put_head-clause-full c =
    on_any c.from_residual.result _ (omega (arith, partition_long c.args.partition.now, ap length c.as_slice.ensures, c.in_err-put_head.ensures.full))
