use Rattle.cas_verify.specs.Fields.{partition_fields}
use Rattle.cas_verify.proofs.Comparing.{IsOn}
use Rattle.cas_verify.proofs.fields.Fields.partitions.Given as goal

abbrev pub invariant-loop-partition : goal.invariant-loop-partition
invariant-loop-partition l = IsOn partition_fields l.partitions l.partition-index l.fn.self.left l.self.left
