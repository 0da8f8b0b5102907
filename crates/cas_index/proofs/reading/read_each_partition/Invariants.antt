use Rattle.std.proofs.Common.{None}
use Rattle.cas_index.specs.Reading.{partition_at, following_at}
use Rattle.cas_index.proofs.Following.{HasDone}
use Rattle.cas_index.proofs.reading.read_each_partition.Given as goal

abbrev pub invariant-loop-done : goal.invariant-loop-done
invariant-loop-done l =
    HasDone (partition_at l.order) l.count (following_at (partition_at l.order) l.count None l.fn.reader) l._done l.partitions.items l.reader
