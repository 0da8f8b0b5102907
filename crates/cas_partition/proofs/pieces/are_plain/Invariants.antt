use Rattle.std.proofs.Common.{◌≡◌, length}
use Rattle.cas_partition.specs.Inner.Pieces.{are_plain}
use Rattle.cas_partition.proofs.pieces.are_plain.Given as goal

abbrev pub invariant-loop-place : goal.invariant-loop-place
invariant-loop-place l = are_plain l.rest ≡ are_plain l.fn.body

abbrev pub decreases-loop-place : goal.decreases-loop-place
decreases-loop-place l = length l.rest
