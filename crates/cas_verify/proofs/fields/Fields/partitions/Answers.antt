use Rattle.std.proofs.Common.{sym}
use Rattle.cas_verify.specs.Fields.{partition_fields}
use Rattle.cas_verify.proofs.Comparing.{on_more, on_fault, on_all}
use Rattle.cas_verify.proofs.fields.Fields.partitions.Goals as goal

pub loop-partition-preserved : goal.loop-partition-preserved
loop-partition-preserved c =
    on_more partition_fields c.args.partitions.now c.loop-partition.partition-index c.partition-item.result c.args.self.now.left c.loop-partition.self.left c.partition.new.self.left
    c.loop-partition-test.true (sym c.partition-item.is) c.in-Ok.ensures c.loop-partition.invariant

pub returns-in-Err : goal.returns-in-Err
returns-in-Err c =
    on_fault partition_fields c.args.partitions.now c.loop-partition.partition-index c.partition-item.result c.args.self.now.left c.loop-partition.self.left c.partition.new.self.left
    c.partition.new.self.left c.in-Err.fault c.loop-partition-test.true (sym c.partition-item.is) c.in-Err.ensures c.loop-partition.invariant

pub returns : goal.returns
returns c =
    on_all partition_fields c.args.partitions.now c.loop-partition.partition-index c.args.self.now.left c.loop-partition.self.left c.loop-partition-test.false c.loop-partition.invariant
