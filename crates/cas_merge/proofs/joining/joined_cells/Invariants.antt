use Rattle.std.proofs.Common.{◌≡◌, ◌+◌, ◌++◌, length}
use Rattle.std.specs.Vec.Iter.{into_iter_items}
use Rattle.cas_streams.specs.Joined.{joined_cells as joined_of}
use Rattle.cas_merge.specs.Inner.Begun.{begun}
use Rattle.cas_merge.proofs.joining.joined_cells.Given as goal

abbrev pub invariant-loop-first : goal.invariant-loop-first
invariant-loop-first l = l.out.items ++ joined_of l.tag (begun l.first (into_iter_items l.left)) (begun l.second (into_iter_items l.right)) ≡ joined_of l.fn.tag l.fn.left l.fn.right

abbrev pub decreases-loop-first : goal.decreases-loop-first
decreases-loop-first l = length (begun l.first (into_iter_items l.left)) + length (begun l.second (into_iter_items l.right))
