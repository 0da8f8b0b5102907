use Rattle.std.proofs.Common.{length}
use Rattle.cas_partition.proofs.Lists.{Making}
use Rattle.cas_partition.proofs.partition.Partition.reserve_all.Given as goal

abbrev pub invariant-loop-rest : goal.invariant-loop-rest
invariant-loop-rest l = Making l.fn.atoms l.rest l.fn.self l.self

abbrev pub decreases-loop-rest : goal.decreases-loop-rest
decreases-loop-rest l = length l.rest
