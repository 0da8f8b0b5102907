use Rattle.std.proofs.Common.{◌≡◌, Some, map, fold, length}
use Rattle.cas_streams.specs.Joined.{joined_fragment}
use Rattle.cas_partition.specs.Inner.Pieces.{said_in, joined_pieces}
use Rattle.cas_partition.proofs.pieces.in_order.Given as goal

abbrev pub invariant-loop-place : goal.invariant-loop-place
invariant-loop-place l = Some (fold joined_fragment l.fragment (map (said_in l.fn.row) l.rest)) ≡ joined_pieces (map (said_in l.fn.row) l.fn.body)

abbrev pub decreases-loop-place : goal.decreases-loop-place
decreases-loop-place l = length l.rest
