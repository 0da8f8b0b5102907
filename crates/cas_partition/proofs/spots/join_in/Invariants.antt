use Rattle.std.proofs.Common.{◌≡◌, length}
use Rattle.std.specs.Vec.Iter.{into_iter_items}
use Rattle.cas_partition.specs.Inner.Firsts.{with_first}
use Rattle.cas_partition.specs.Inner.Rows.{joined_place}
use Rattle.cas_partition.specs.Inner.Runs.{joined_places, JoinsRun}
use Rattle.cas_partition.proofs.spots.join_in.Given as goal

abbrev pub invariant-loop-next : goal.invariant-loop-next
invariant-loop-next l =
    JoinsRun l.fn.row (into_iter_items l.fn.rest) (with_first l.next (into_iter_items l.rest)) (λ run. l.body ≡ joined_places run (joined_place l.fn.place l.fn.content l.fn.body))

abbrev pub decreases-loop-next : goal.decreases-loop-next
decreases-loop-next l = length (with_first l.next (into_iter_items l.rest))
