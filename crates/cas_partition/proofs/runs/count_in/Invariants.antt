use Rattle.std.proofs.Common.{length}
use Rattle.cas_partition.proofs.RunLists.{Counting}
use Rattle.cas_partition.proofs.runs.count_in.Given as goal

abbrev pub invariant-loop-rest : goal.invariant-loop-rest
invariant-loop-rest l = Counting l.fn.row l.fn.atoms l.rest l.count

abbrev pub decreases-loop-rest : goal.decreases-loop-rest
decreases-loop-rest l = length l.rest
