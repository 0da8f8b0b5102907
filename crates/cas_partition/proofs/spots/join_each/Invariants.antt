use Rattle.std.proofs.Common.{◌≡◌, length}
use Rattle.std.specs.Vec.Iter.{into_iter_items}
use Rattle.cas_partition.specs.Inner.Runs.{joined_places}
use Rattle.cas_partition.proofs.spots.join_each.Given as goal

abbrev pub invariant-loop-atom : goal.invariant-loop-atom
invariant-loop-atom l = joined_places (into_iter_items l.rest) l.body ≡ joined_places l.fn.atoms l.fn.body

abbrev pub decreases-loop-atom : goal.decreases-loop-atom
decreases-loop-atom l = length (into_iter_items l.rest)
