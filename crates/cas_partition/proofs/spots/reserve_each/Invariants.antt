use Rattle.std.proofs.Common.{length}
use Rattle.cas_partition.proofs.RunLists.{Placing}
use Rattle.cas_partition.proofs.spots.reserve_each.Given as goal

abbrev pub invariant-loop-rest : goal.invariant-loop-rest
invariant-loop-rest l = Placing l.fn.atoms l.rest l.fn.body l.body

abbrev pub decreases-loop-rest : goal.decreases-loop-rest
decreases-loop-rest l = length l.rest
