use Rattle.std.proofs.Common.{◌≡◌, ◌++◌, map, length}
use Rattle.cas_partition.specs.Inner.Passing.{lent_marker, own_marker}
use Rattle.cas_partition.proofs.passing.changes.Given as goal

abbrev pub invariant-loop-rest : goal.invariant-loop-rest
invariant-loop-rest l = map own_marker l.out.items ++ map lent_marker l.rest ≡ map lent_marker l.fn.marks

abbrev pub decreases-loop-rest : goal.decreases-loop-rest
decreases-loop-rest l = length l.rest
