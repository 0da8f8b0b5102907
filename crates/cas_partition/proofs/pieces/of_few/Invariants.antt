use Rattle.std.proofs.Common.{◌≡◌, Some, map, fold, length}
use Rattle.cas_streams.specs.Joined.{joined_fragment}
use Rattle.cas_partition.specs.Inner.Pieces.{lent_in, joined_pieces}
use Rattle.cas_partition.proofs.pieces.of_few.Given as goal

abbrev pub invariant-loop-rest : goal.invariant-loop-rest
invariant-loop-rest l = Some (fold joined_fragment l.fragment (map (lent_in l.fn.row) l.rest)) ≡ joined_pieces (map (lent_in l.fn.row) l.fn.entries)

abbrev pub decreases-loop-rest : goal.decreases-loop-rest
decreases-loop-rest l = length l.rest
