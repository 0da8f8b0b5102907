use Rattle.std.proofs.Common.{◌≡◌, ◌+◌, ◌≤◌, ◌++◌, take, length, vec_len}
use Rattle.std.specs.List.{flat_map}
use Rattle.std.specs.Vec.{vec_capacity}
use Rattle.cas_index.specs.Spelling.{partition_bytes}
use Rattle.cas_index.proofs.writing.put_partitions.Given as goal

abbrev pub invariant-loop-partition : goal.invariant-loop-partition
invariant-loop-partition l = record {
  written : l.out.items ≡ l.fn.out.items ++ flat_map partition_bytes (take l.partition-index l.partitions);
  long : vec_len l.out ≡ vec_len l.fn.out + length (flat_map partition_bytes (take l.partition-index l.partitions));
  capacity : vec_capacity l.fn.out ≤ vec_capacity l.out;
}
