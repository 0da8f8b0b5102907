use Rattle.std.proofs.Common.{◌≡◌, ◌++◌, Option, map, length}
use Rattle.cas_bounds.specs.declared.map_key.MapKey.{MapKey}
use Rattle.cas_partition.specs.Inner.Pieces.{said_in, lent_in}
use Rattle.cas_partition.proofs.pieces.lent.Given as goal

abbrev pub invariant-loop-place : goal.invariant-loop-place
invariant-loop-place l = (row : Option MapKey) → map (lent_in row) l.entries.items ++ map (said_in row) l.rest ≡ map (said_in row) l.fn.body

abbrev pub decreases-loop-place : goal.decreases-loop-place
decreases-loop-place l = length l.rest
