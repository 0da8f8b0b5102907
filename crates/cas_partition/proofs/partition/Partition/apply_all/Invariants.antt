use Rattle.std.proofs.Common.{length}
use Rattle.std.specs.Vec.Iter.{into_iter_items}
use Rattle.cas_partition.specs.Inner.Firsts.{with_first}
use Rattle.cas_partition.proofs.Lists.{Joining}
use Rattle.cas_partition.proofs.partition.Partition.apply_all.Given as goal

abbrev pub invariant-loop-next : goal.invariant-loop-next
invariant-loop-next l = Joining l.fn.atoms (with_first l.next (into_iter_items l.rest)) l.fn.self l.self

abbrev pub decreases-loop-next : goal.decreases-loop-next
decreases-loop-next l = length (with_first l.next (into_iter_items l.rest))
