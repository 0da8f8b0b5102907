use Rattle.std.proofs.Common.{length}
use Rattle.cas_partition.proofs.FewPlaces.{Seeking}
use Rattle.cas_partition.proofs.body.seek.Given as goal

abbrev pub invariant-loop-rest : goal.invariant-loop-rest
invariant-loop-rest l = Seeking l.fn.place l.fn.entries l.rest l.at

abbrev pub decreases-loop-rest : goal.decreases-loop-rest
decreases-loop-rest l = length l.rest
